-- Which marks say traced.
-- Assumes nothing.
use mathlib.Core.Path.{◌≡◌}
use mathlib.Core.Bool.{true, false}
use Prim.Native.Nat.{ℕ}
use borrow.Author.Tests.{eq-eqb, ne_eqb}
use Rattle.reach.specs.Mark.{traced_mark}
use Rattle.reach.proofs.Cases.{eq_or_ne, Decided}
use mathlib.Core.Logic.{inl, inr}

pub says_traced : (v : ℕ) → ((v ≡ 2 → ⊥) → v ≡ 3) → true ≡ traced_mark v
unfolding traced_mark
says_traced v h = by (eq_or_ne v 2)
  where
    by : Decided (v ≡ 2) → true ≡ traced_mark v
    by (inl e) = rw (eq-eqb v 2 e)
    by (inr e) = rw (ne_eqb v 2 e, eq-eqb v 3 (h e))

pub says_not : (v : ℕ) → (v ≡ 2 → ⊥) → (v ≡ 3 → ⊥) → false ≡ traced_mark v
unfolding traced_mark
says_not v a b = rw (ne_eqb v 2 a, ne_eqb v 3 b)
