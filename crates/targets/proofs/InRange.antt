-- An instruction that fits: each of its operands fits its field.
-- Assumes nothing.
use Rattle.std.proofs.Common.{◌≡◌, false}
use Rattle.instruction.specs.Answer.{accepted}
use Rattle.instruction.specs.Encode.{fit_answer}
use Rattle.instruction.specs.declared.instr.Instr.{Instr}
use Rattle.instruction.proofs.Encoding.{Unfit1, Unfit2, Unfit3}
use Rattle.instruction.proofs.Accepting.{passed}

pub record InRange (i : Instr) : Type 0 where
  pub first : Unfit1 i false
  pub second : Unfit2 i false
  pub third : Unfit3 i false

pub fits_all : (i : Instr) → fit_answer i ≡ accepted tt → InRange i
unfolding fit_answer
fits_all i e =
    let one = passed _ _ _ e in
    let two = passed _ _ _ one.1 in
    let three = passed _ _ _ two.1 in
    record { first = one.0; second = two.0; third = three.0 }
