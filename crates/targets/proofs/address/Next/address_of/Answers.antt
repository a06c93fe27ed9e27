-- What `address_of` answers of an operand that is its own address.
-- Assumes nothing.
use mathlib.Core.Logic.{◌⊎◌, inl, inr}
use Rattle.std.proofs.Common.{◌≡◌, ℕ, ℤ, ◌∙◌}
use Rattle.instruction.specs.declared.kind.Kind.{Kind}
use Rattle.instruction.specs.declared.kind.Kind.TheVariants.{Absent, Immediate, Direct, Register, BitNumber, Far}
use Rattle.instruction.specs.declared.mode.Mode.{Mode}
use Rattle.instruction.proofs.Sign.{back}
use Rattle.targets.specs.Targets.{address_of}
use Rattle.targets.proofs.address.Next.address_of.Goals as goal

own : (o : Mode) (n : ℕ) (k : Kind) (z : ℤ)
    → (k ≡ Absent) ⊎ ((k ≡ Immediate) ⊎ ((k ≡ Direct) ⊎ ((k ≡ Register) ⊎ ((k ≡ BitNumber) ⊎ (k ≡ Far))))) → z ≡ address_of o n k z
unfolding address_of
own o n k z (inl e) = rw e
own o n k z (inr (inl e)) = rw e
own o n k z (inr (inr (inl e))) = rw e
own o n k z (inr (inr (inr (inl e)))) = rw e
own o n k z (inr (inr (inr (inr (inl e))))) = rw e
own o n k z (inr (inr (inr (inr (inr e))))) = rw e

pub returns-in-Absent : goal.returns-in-Absent
returns-in-Absent c = back c.ranges.z ∙ own c.args.self.mode c.args.self.at c.args.kind c.args.z c.in-Absent.is
