-- The letters of a number one by one, and how many they are.
-- Assumes nothing.
use mathlib.Core.Path.{◌≡◌, refl}
use mathlib.Core.List.{[], ◌∷◌, ◌++◌}
use Prim.Native.Nat.{ℕ, zero, suc, ◌-◌, ◌/◌, ◌%◌, ◌≤◌, ◌<◌}
use native.Mathlib.Nat.{not-suc-le-zero}
use native.Mathlib.Numerals.{sub-one}
use native.Mathlib.Omega.{arith}
use lib.ListN.{length}
use Rattle.text.specs.Puts.{letters}

pub letters_more : (k w : ℕ) → 0 < k → (w ≡ 0 → ⊥) → letters k w ≡ (w % 256 ∷ []) ++ letters (k - 1) (w / 256)
unfolding letters
letters_more zero w p n = absurd (not-suc-le-zero p)
letters_more (suc k) zero p n = absurd (n refl)
letters_more (suc k) (suc w) p n = rw sub-one

pub letters_stop : (k w : ℕ) → w ≡ 0 → letters k w ≡ []
unfolding letters
letters_stop zero w e = refl
letters_stop (suc k) w e = rw e

pub letters_end : (k w : ℕ) → k ≤ 0 → letters k w ≡ []
unfolding letters
letters_end zero w e = refl
letters_end (suc k) w e = absurd (not-suc-le-zero e)

pub letters_length : (k w : ℕ) → length (letters k w) ≤ k
unfolding letters
letters_length zero w = omega arith
letters_length (suc k) zero = omega arith
letters_length (suc k) (suc w) = omega (arith, letters_length k (suc w / 256))
