-- How many positions lie in a stretch, and are one position. Assumes nothing.
use Prim.Native.Nat.{ℕ, zero, suc, ◌+◌, ◌-◌, ◌<◌, ◌≤◌, zero-le}
use native.Mathlib.Omega.{arith}
use mathlib.Core.Bool.{Bool, ◌&&◌}
use mathlib.Core.Path.{◌≡◌}
use mathlib.Core.Logic.{◌⊎◌, inl, inr}
use lib.Dec.{eqb, ltb, leb}
use borrow.Author.Tests.{lt-ltb, le-ltb, le-leb, lt-leb, ne_eqb, eq-eqb}
use Rattle.reach.specs.HowMany.{how_many}
use Rattle.reach.proofs.Cases.{eq_or_ne, lt_or_le, Decided}
use Rattle.reach.proofs.Count.{one}
use Rattle.reach.proofs.HowMany.{many_same}

module _ (a s : ℕ) where
  -- the s positions from a on
  abbrev pub in_stretch : ℕ → Bool
  in_stretch b = leb a b && ltb b (a + s)

  -- counted from p on, which lies in it or past it: those that are left
  left : (k p : ℕ) → a ≤ p → how_many in_stretch k p ≤ a + s - p
  unfolding how_many
  left zero p h = zero-le
  left (suc k) p h = by (lt_or_le p (a + s)) (left k (suc p) (omega arith))
    where
      by : (p < a + s) ⊎ (a + s ≤ p) → how_many in_stretch k (suc p) ≤ a + s - suc p → one (leb a p && ltb p (a + s)) + how_many in_stretch k (suc p) ≤ a + s - p
      by (inl i) r = rw (le-leb a p h, lt-ltb p (a + s) i) (omega arith)
      by (inr i) r = rw (le-leb a p h, le-ltb p (a + s) i) (omega arith)

  pub few_in_stretch : (k p : ℕ) → how_many in_stretch k p ≤ s
  unfolding how_many
  few_in_stretch zero p = zero-le
  few_in_stretch (suc k) p = by (lt_or_le p a) (few_in_stretch k (suc p)) (λ h. left (suc k) p h)
    where
      by : (p < a) ⊎ (a ≤ p) → how_many in_stretch k (suc p) ≤ s → (a ≤ p → how_many in_stretch (suc k) p ≤ a + s - p)
          → one (leb a p && ltb p (a + s)) + how_many in_stretch k (suc p) ≤ s
      by (inl h) r on = rw (lt-leb a p h) (omega arith)
      by (inr h) r on = let x = on h in omega arith

-- one position is a stretch of one
alone : (a b : ℕ) → eqb a b ≡ (leb a b && ltb b (a + 1))
alone a b = by (eq_or_ne a b) (lt_or_le b a)
  where
    by : Decided (a ≡ b) → (b < a) ⊎ (a ≤ b) → eqb a b ≡ (leb a b && ltb b (a + 1))
    by (inl e) w = rw (eq-eqb a b e, le-leb a b (omega arith), lt-ltb b (a + 1) (omega arith))
    by (inr ne) (inl h) = rw (ne_eqb a b ne, lt-leb a b h)
    by (inr ne) (inr h) = rw (ne_eqb a b ne, le-leb a b h, le-ltb b (a + 1) (omega arith))

pub one_at_most : (a k p : ℕ) → how_many (λ (b : ℕ). eqb a b) k p ≤ 1
one_at_most a k p =
    let e = many_same (λ (b : ℕ). eqb a b) (in_stretch a 1) k p (λ b h i. alone a b) in omega (arith, e, few_in_stretch a 1 k p)
