-- An instruction whose fields are in range: it has no operand beside those of its form, and a number stands for each of these.
-- Assumes nothing.
use mathlib.Core.Path.{◌≡◌, ap, sym, ◌∙◌}
use Rattle.instruction.specs.Answer.{accepted}
use Rattle.instruction.specs.Encode.{fit_answer}
use Rattle.instruction.specs.Code.{code_of}
use Rattle.instruction.specs.Parts.{parts_of}
use Rattle.instruction.specs.declared.instr.Instr.{Instr}
use Rattle.instruction.specs.declared.instr.Parts.{Parts}
use Rattle.instruction.proofs.Known.{known}
use Rattle.instruction_laws.specs.PartsMade.{used_in}
use Rattle.instruction.proofs.Accepting.{passed}
use Rattle.instruction_laws.proofs.EveryKind.{law}
use Rattle.instruction_laws.proofs.Numbers.{shape_of, Numbers}
use Rattle.instruction_laws.proofs.PartsMade.{parted}

whole : (i : Instr) → used_in (shape_of (parts_of i)) (parts_of i) ≡ parts_of i
whole i = sym (parted (parts_of i) (known i).small) ∙ ap parts_of (known i).made

-- the numbers of its operands
abbrev pub Fitted : Instr → Type 0
Fitted i = Numbers (parts_of i) (code_of (parts_of i).a) (code_of (parts_of i).b) (code_of (parts_of i).c)

pub fitted : (i : Instr) → fit_answer i ≡ accepted tt → Fitted i
unfolding fit_answer
fitted i fit =
    let one = passed _ _ _ fit in
    let two = passed _ _ _ one.1 in
    let three = passed _ _ _ two.1 in
    record {
      form = (known i).small;
      first = (law _).operand (parts_of i).a one.0 (ap (λ (u : Parts). u.a) (whole i));
      second = (law _).operand (parts_of i).b two.0 (ap (λ (u : Parts). u.b) (whole i));
      third = (law _).operand (parts_of i).c three.0 (ap (λ (u : Parts). u.c) (whole i));
    }
