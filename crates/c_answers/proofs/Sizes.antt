-- The numbers that the answers on instructions carry, sizes of 1 to 3 bytes and the position after one, fit a value of a reply.
-- Assumes nothing.
use mathlib.Core.Path.{◌≡◌, refl}
use mathlib.Core.Bool.{Bool, true, false}
use mathlib.Core.List.{List}
use Prim.Native.Nat.{ℕ, ◌<◌, ◌^◌}
use native.Mathlib.Omega.{arith}
use borrow.Author.Tests.{ltb-true, ltb-false}
use lib.Dec.{ltb}
use Rattle.instruction.specs.Encode.{form_in, encode_answer}
use Rattle.instruction.specs.Forms.{form_at, size_of}
use Rattle.instruction.specs.Parts.{parts_of}
use Rattle.instruction.specs.declared.mode.Mode.{Mode}
use Rattle.instruction.specs.declared.instr.Instr.{Instr}
use Rattle.instruction.proofs.Known.{known}
use Rattle.instruction.proofs.NoForm.{no_bytes}
use Rattle.instruction.proofs.Shapes.{size_range}
use Rattle.targets.specs.Targets.{next_of, targets_answer}
use Rattle.c_answers.proofs.Fitting.{Holds, Any, Short, this, fewer, judged}

-- a form has at most three bytes, and a number that no form has has none
pub form_small : (k : ℕ) → size_of (form_at k) < 2 ^ 63
form_small k = by (ltb k 70) refl
  where
    by : (b : Bool) → ltb k 70 ≡ b → size_of (form_at k) < 2 ^ 63
    by true e = let h : size_of (form_at k) < 4 = (size_range k (ltb-true k 70 e)).1 in omega arith
    by false e = rw (no_bytes k (ltb-false k 70 e)) (omega arith)

pub size_small : (i : Instr) → size_of (form_in i) < 2 ^ 63
size_small i = form_small (parts_of i).form

-- 7 and 11, which carries the size
pub encode_fits : (i : Instr) (room : List ℕ) → Holds Short (encode_answer i room)
unfolding encode_answer
encode_fits i room =
    judged Short _ _ (fewer, (fewer, (fewer, (this 11 (size_small i), tt)))) (λ e. size_small i)

-- next, of a position of 32 bits
next_small : (position : ℕ) (i : Instr) → position < 2 ^ 32 → next_of position i < 2 ^ 63
next_small position i h =
    let k : size_of (form_in i) < 4 = (size_range (parts_of i).form (known i).small).1 in omega arith

pub targets_fits : (mode : Mode) (position : ℕ) (i : Instr) → position < 2 ^ 32 → Holds Any (targets_answer mode position i)
unfolding targets_answer
targets_fits mode position i h =
    judged Any _ _ (this 14 (next_small position i h), (fewer, (fewer, (fewer, tt)))) (λ e. tt)
