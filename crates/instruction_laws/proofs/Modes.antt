-- Resolving in the two modes: a difference from -128 to 127 is its own nearest number.
-- Assumes nothing.
use mathlib.Core.Path.{◌≡◌, refl, ap, sym, ◌∙◌}
use mathlib.Core.Bool.{false}
use mathlib.Core.List.{List, [], ◌∷◌, ◌++◌, append-nil}
use Prim.Native.Nat.{ℕ, ◌-◌, ◌≤◌}
use native.Mathlib.Omega.{arith}
use borrow.Author.Tests.{ltb-false, lt-ltb}
use lib.IntN.{ℤ, pos, negsuc, ◌-ℤ◌}
use Rattle.instruction.specs.Answer.{accepted, Refusal, refuse, judge}
use Rattle.instruction.specs.Encode.{form_in}
use Rattle.instruction.specs.Forms.{forms, form_at, form_named}
use Rattle.instruction.specs.Kinds.{kinds_of, kind_at}
use Rattle.instruction.specs.Parts.{parts_of, made_of}
use Rattle.instruction.specs.Range.{outside}
use Rattle.instruction.specs.Resolve.{resolve_answer}
use Rattle.instruction.specs.ResolveOperand.{no_address, nearest, operand_refusals, field_of}
use Rattle.instruction.specs.declared.instr.Parts.{Parts}
use Rattle.instruction.specs.declared.kind.Kind.{Kind}
use Rattle.instruction.specs.declared.kind.Kind.TheVariants.{Absent, Immediate, Direct, Register, BitNumber, Page, Far, Short, Long}
use Rattle.instruction.specs.declared.mode.Mode.TheVariants.{Unwrapped}
use Rattle.instruction.proofs.Accepting.{passed}
use Rattle.instruction.proofs.Resolving.{near_up, near_down}
use Rattle.instruction.proofs.Sign.{inside}
use Rattle.instruction_laws.specs.Modes.{SameOperand, ResolvesAsBefore, ResolvedAlike, ModesResolve}

near : (z : ℤ) → outside (negsuc 127) (pos 127) z ≡ false → nearest z ≡ z
near (pos n) e =
    let h : n ≤ 127 = ltb-false 127 n (inside (negsuc 127) (pos 127) (pos n) e).1 in
    sym (near_up (pos n) n (omega arith) (omega arith))
near (negsuc n) e =
    let h : n ≤ 127 = ltb-false 127 n (inside (negsuc 127) (pos 127) (negsuc n) e).0 in
    let d : pos (65535 - n) -ℤ pos 65536 ≡ negsuc n = rw (lt-ltb (65535 - n) 65536 (omega arith)) (ap negsuc (omega arith)) in
    sym (near_down (negsuc n) (65535 - n) (omega arith) (omega arith)) ∙ d

-- where the difference is in range, its refusals and its field are the same
same_short : (base n : ℕ) (z : ℤ) → outside (negsuc 127) (pos 127) (z -ℤ pos base) ≡ false → SameOperand base n Short z
unfolding operand_refusals field_of
same_short base n z e = record {
  same_refusals = ap (λ (d : ℤ). refuse (no_address z) 8 (z ∷ []) ∷ refuse (outside (negsuc 127) (pos 127) d) 9 (d ∷ []) ∷ []) (near (z -ℤ pos base) e);
  same_field = near (z -ℤ pos base) e;
}

same_other : (base n : ℕ) (k : Kind) (z : ℤ) → (k ≡ Short → ⊥) → SameOperand base n k z
unfolding operand_refusals field_of
same_other base n Absent z o = record { same_refusals = refl; same_field = refl }
same_other base n Immediate z o = record { same_refusals = refl; same_field = refl }
same_other base n Direct z o = record { same_refusals = refl; same_field = refl }
same_other base n Register z o = record { same_refusals = refl; same_field = refl }
same_other base n BitNumber z o = record { same_refusals = refl; same_field = refl }
same_other base n Page z o = record { same_refusals = refl; same_field = refl }
same_other base n Far z o = record { same_refusals = refl; same_field = refl }
same_other base n Short z o = absurd (o refl)
same_other base n Long z o = record { same_refusals = refl; same_field = refl }

pub resolves_as_before : ResolvesAsBefore
unfolding operand_refusals field_of
resolves_as_before = record { others = same_other; short_refusals = λ base n z. refl; short_field = λ base z. refl }

-- where the refusals of an operand in the old mode and those behind them let a call through, the operand is the same in both modes, and
-- those behind let the call through
module _ {A : Type 0} (base n : ℕ) (z : ℤ) (rs : List Refusal) (a : A) {b : A} where
  operand : (k : Kind) → judge (operand_refusals Unwrapped base n k z ++ rs) a ≡ accepted b → SameOperand base n k z × (judge rs a ≡ accepted b)
  unfolding operand_refusals field_of
  operand Absent e = (record { same_refusals = refl; same_field = refl }, e)
  operand Immediate e = (record { same_refusals = refl; same_field = refl }, (passed _ _ _ e).1)
  operand Direct e = (record { same_refusals = refl; same_field = refl }, (passed _ _ _ e).1)
  operand Register e = (record { same_refusals = refl; same_field = refl }, (passed _ _ _ e).1)
  operand BitNumber e = (record { same_refusals = refl; same_field = refl }, (passed _ _ _ e).1)
  operand Page e = (record { same_refusals = refl; same_field = refl }, (passed _ _ _ (passed _ _ _ e).1).1)
  operand Far e = (record { same_refusals = refl; same_field = refl }, (passed _ _ _ e).1)
  operand Short e = let p = passed _ _ _ (passed _ _ _ e).1 in (same_short base n z p.0, p.1)
  operand Long e = (record { same_refusals = refl; same_field = refl }, (passed _ _ _ e).1)

pub resolved_alike : ResolvedAlike
unfolding resolve_answer
resolved_alike i base j e =
    let v : Parts = parts_of i in
    let k : ℕ → Kind = kind_at (form_in i).shape in
    let one = operand base 1 v.a _ _ (k 0) (passed _ _ _ e).1 in
    let two = operand base 2 v.b _ _ (k 1) one.1 in
    let three = operand base 3 v.c _ _ (k 2) (rw (← append-nil (operand_refusals Unwrapped base 3 (k 2) v.c)) at two.1) in
    rw (one.0.same_refusals, two.0.same_refusals, three.0.same_refusals, one.0.same_field, two.0.same_field, three.0.same_field) e

pub modes_resolve : ModesResolve
unfolding judge resolve_answer operand_refusals field_of forms form_at form_named kinds_of parts_of made_of
modes_resolve = (refl, refl, refl, refl)
