-- What resolve answers fits: an operand that is not refused has a field in range, at every kind; and the instruction made of these fields
-- has no other (`PartsMade`).
-- Assumes nothing.
use mathlib.Core.Path.{◌≡◌, refl, ap, sym}
use mathlib.Core.Bool.{false}
use mathlib.Core.List.{List, ◌++◌, append-nil}
use Prim.Native.Nat.{ℕ, ◌%◌}
use native.Mathlib.Omega.{arith}
use lib.IntN.{ℤ, pos, nat_abs, ◌+ℤ◌, ◌-ℤ◌}
use Rattle.instruction.specs.Answer.{accepted, Refusal, judge}
use Rattle.instruction.specs.Kinds.{kind_at}
use Rattle.instruction.specs.Range.{unfit}
use Rattle.instruction.specs.Parts.{parts_of}
use Rattle.instruction.specs.Resolve.{resolve_answer}
use Rattle.instruction.specs.ResolveOperand.{operand_refusals, field_of}
use Rattle.instruction.specs.declared.instr.Parts.{Parts}
use Rattle.instruction.specs.declared.kind.Kind.{Kind}
use Rattle.instruction.specs.declared.kind.Kind.TheVariants.{Absent, Immediate, Direct, Register, BitNumber, Page, Far, Short, Long}
use Rattle.instruction.proofs.Encoding.{fits}
use Rattle.instruction.proofs.Known.{known}
use Rattle.instruction_laws.specs.PartsMade.{used, used_in}
use Rattle.instruction_laws.specs.Resolving.{ResolvedFits}
use Rattle.instruction.proofs.Accepting.{passed, ended}
use Rattle.instruction.proofs.Resolving.{wrapped_less}
use Rattle.instruction_laws.proofs.EveryKind.{law}
use Rattle.instruction_laws.proofs.Fields.{limit}
use Rattle.instruction_laws.proofs.Numbers.{shape_of}
use Rattle.instruction_laws.proofs.PartsMade.{parted}
use Rattle.instruction.specs.declared.mode.Mode.{Mode}

-- where the refusals of an operand and those behind them let a call through, its field is in range, and those behind let the call through
module _ (mode : Mode) {A : Type 0} (base n : ℕ) (z : ℤ) (rs : List Refusal) (a : A) {b : A} where
  in_range : (k : Kind) → judge (operand_refusals mode base n k z ++ rs) a ≡ accepted b
      → (unfit k (used k (field_of mode base k z)) ≡ false) × (judge rs a ≡ accepted b)
  unfolding operand_refusals field_of unfit limit
  in_range Absent e = (refl, e)
  in_range Immediate e = passed _ _ _ e
  in_range Direct e = passed _ _ _ e
  in_range Register e = passed _ _ _ e
  in_range BitNumber e = passed _ _ _ e
  in_range Page e = (((law Page).number (nat_abs z % 4096) (omega arith)).fit, (passed _ _ _ (passed _ _ _ e).1).1)
  in_range Far e = passed _ _ _ e
  in_range Short e = passed _ _ _ (passed _ _ _ e).1
  in_range Long e = (((law Long).number _ (wrapped_less ((z -ℤ pos base) +ℤ pos 1))).fit, (passed _ _ _ e).1)

pub resolved_fits : ResolvedFits
unfolding resolve_answer
resolved_fits mode i base j e =
    let v : Parts = parts_of i in
    let k : ℕ → Kind = kind_at (shape_of v) in
    let w : Parts = record { form = v.form; a = field_of mode base (k 0) v.a; b = field_of mode base (k 1) v.b; c = field_of mode base (k 2) v.c } in
    let one = in_range mode base 1 v.a _ _ (k 0) (passed _ _ _ e).1 in
    let two = in_range mode base 2 v.b _ _ (k 1) one.1 in
    let three = in_range mode base 3 v.c _ _ (k 2) (rw (← append-nil (operand_refusals mode base 3 (k 2) v.c)) at two.1) in
    let p : parts_of j ≡ used_in (shape_of v) w = rw (← ended _ three.1) (parted w (known i).small) in
    record { form = ap (λ (u : Parts). u.form) p; fit = sym (fits j (rw p one.0) (rw p two.0) (rw p three.0)) }
