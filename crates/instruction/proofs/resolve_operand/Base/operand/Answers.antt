-- What `operand` answers, kind by kind.
-- Assumes nothing.
use Rattle.std.proofs.Common.{◌≡◌, ℕ, [], ◌∷◌, ℤ, pos, sym, refl, ◌∙◌}
use mathlib.Core.Logic.{◌⊎◌, inl, inr}
use Rattle.instruction.specs.Answer.{Answer, refuse, judge}
use Rattle.instruction.specs.Range.{unfit}
use Rattle.instruction.specs.ResolveOperand.{operand_refusals, field_of}
use Rattle.instruction.specs.declared.kind.Kind.{Kind}
use Rattle.instruction.specs.declared.kind.Kind.TheVariants.{Immediate, Direct, Register, BitNumber, Far}
use Rattle.instruction.specs.declared.mode.Mode.{Mode}
use Rattle.instruction.proofs.Judging.{done}
use Rattle.instruction.proofs.Resolving.{answer_of}
use Rattle.instruction.proofs.Sign.{back}
use Rattle.instruction.proofs.resolve_operand.Base.operand.Goals as goal

-- an answer at the arm's kind, to the number read back, is the answer at the operand's kind to its number
at : (o : Mode) (b n : ℕ) {k k' : Kind} {y z : ℤ} {r : Answer ℤ} → k' ≡ k → y ≡ z → r ≡ answer_of o b n k y → r ≡ answer_of o b n k' z
at o b n e f g = rw (e, ← f) g

-- the same of an operand that is its own field
own : (o : Mode) (b n : ℕ) {k k' : Kind} {y z : ℤ} {r : Answer ℤ} → k' ≡ k → y ≡ z
    → judge (refuse (unfit k y) 7 (pos n ∷ y ∷ []) ∷ []) y ≡ answer_of o b n k y → r ≡ judge (refuse (unfit k' y) 7 (pos n ∷ y ∷ []) ∷ []) y
    → r ≡ answer_of o b n k' z
own o b n e f g h = at o b n e f ((rw e at h) ∙ g)

-- whichever of the five kinds it is of
any_own : (o : Mode) (b n : ℕ) {k : Kind} {y z : ℤ} {r : Answer ℤ}
    → (k ≡ Immediate) ⊎ ((k ≡ Direct) ⊎ ((k ≡ Register) ⊎ ((k ≡ BitNumber) ⊎ (k ≡ Far)))) → y ≡ z
    → r ≡ judge (refuse (unfit k y) 7 (pos n ∷ y ∷ []) ∷ []) y → r ≡ answer_of o b n k z
unfolding operand_refusals field_of unfit
any_own o b n (inl e) f h = own o b n e f refl h
any_own o b n (inr (inl e)) f h = own o b n e f refl h
any_own o b n (inr (inr (inl e))) f h = own o b n e f refl h
any_own o b n (inr (inr (inr (inl e)))) f h = own o b n e f refl h
any_own o b n (inr (inr (inr (inr e)))) f h = own o b n e f refl h

pub returns-in-Absent : goal.returns-in-Absent
unfolding operand_refusals field_of
returns-in-Absent c = at _ _ _ c.in-Absent.is (back c.ranges.z) (sym (done _))

pub returns-in-Immediate : goal.returns-in-Immediate
returns-in-Immediate c = any_own _ _ _ c.in-Immediate.is (back c.ranges.z) c.plain.ensures

pub returns-in-Page : goal.returns-in-Page
unfolding operand_refusals field_of
returns-in-Page c = at _ _ _ c.in-Page.is (back c.ranges.z) c.page.ensures

pub returns-in-Short : goal.returns-in-Short
unfolding operand_refusals field_of
returns-in-Short c = at _ _ _ c.in-Short.is (back c.ranges.z) c.short.ensures

pub returns-in-Long : goal.returns-in-Long
unfolding operand_refusals field_of
returns-in-Long c = at _ _ _ c.in-Long.is (back c.ranges.z) c.long.ensures
