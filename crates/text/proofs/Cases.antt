-- A case of an answer is not another one.
-- Assumes nothing.
use mathlib.Core.Path.{◌≡◌}
use mathlib.Core.Logic.{◌⊎◌, inl, inr}
use Prim.Native.Nat.{ℕ}
use native.Mathlib.Omega.{arith}

-- the first of three is neither of the others
pub neither : (◌≡◌ {A = ℕ} 0 1) ⊎ (◌≡◌ {A = ℕ} 0 2) → ⊥
neither (inl e) = omega arith
neither (inr e) = omega arith

-- the first of six is none of the others
pub none_other : (◌≡◌ {A = ℕ} 0 1) ⊎ ((◌≡◌ {A = ℕ} 0 2) ⊎ ((◌≡◌ {A = ℕ} 0 3) ⊎ ((◌≡◌ {A = ℕ} 0 4) ⊎ (◌≡◌ {A = ℕ} 0 5)))) → ⊥
none_other (inl e) = omega arith
none_other (inr (inl e)) = omega arith
none_other (inr (inr (inl e))) = omega arith
none_other (inr (inr (inr (inl e)))) = omega arith
none_other (inr (inr (inr (inr e)))) = omega arith
