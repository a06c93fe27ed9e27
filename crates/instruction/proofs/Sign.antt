-- Signed numbers read back from the machine, and ranges of them.
-- Assumes nothing.
use Rattle.std.proofs.Common.{◌≡◌, ℕ, ◌≤◌, Bool, true, false, ◌||◌, ℤ, pos, negsuc, nat_abs, refl, arith, to_z-of_z, w32, SFits, to_z, of_z, ltb-false}
use lib.Signed.{lt_z}
use Rattle.instruction.specs.Range.{outside}

pub never : true ≡ false → ⊥
never e = let z : ◌≡◌ {A = ℕ} 0 1 = cc in omega arith

-- a machine's number read back
pub back : {z : ℤ} → SFits w32 z → to_z w32 (of_z w32 z) ≡ z
back f = to_z-of_z f

-- ---- ranges

pub below : (low high z : ℤ) → lt_z z low ≡ true → true ≡ outside low high z
below low high z e = rw e

pub not_below : (low high z : ℤ) → lt_z z low ≡ false → lt_z high z ≡ outside low high z
not_below low high z e = rw e

-- inside a range: neither below it nor above
pub inside : (low high z : ℤ) → outside low high z ≡ false → (lt_z z low ≡ false) × (lt_z high z ≡ false)
inside low high z e = by (lt_z z low) refl e
  where
    by : (t : Bool) → lt_z z low ≡ t → (t || lt_z high z) ≡ false → (lt_z z low ≡ false) × (lt_z high z ≡ false)
    by true p q = absurd (never q)
    by false p q = (p, q)

-- a number that is not below 0 and at most h is a natural number
pub record Natural (z : ℤ) (h : ℕ) : Type 0 where
  pub is : z ≡ pos (nat_abs z)
  pub most : nat_abs z ≤ h

pub natural : (h : ℕ) (z : ℤ) → outside (pos 0) (pos h) z ≡ false → Natural z h
natural h (pos n) e = record { is = refl; most = ltb-false h n (inside (pos 0) (pos h) (pos n) e).1 }
natural h (negsuc n) e = absurd (never e)
