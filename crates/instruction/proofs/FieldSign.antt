-- Signed numbers by cases on the sign, where omega reads no ℤ.
-- Assumes nothing.
use Rattle.std.proofs.Common.{◌≡◌, ℕ, zero, suc, ◌-◌, ◌^◌, ◌<◌, ◌≤◌, Bool, true, false, cond, T, ltb, ℤ, pos, negsuc, ◌+ℤ◌, ◌-ℤ◌, nat_abs, sym, refl, ap, arith, w32, Fits, SFits, ltb-false, ltb-true, le-ltb, lt-ltb}
use lib.IntN.{sub_ℕ}
use lib.Signed.{lt_z, non_neg, mag}
use mir.Val.{hbits}
use Rattle.instruction.proofs.Sign.{never}
use Rattle.instruction.specs.Code.{code_of}

-- ---- a byte less 256

pub less : (p : ℕ) → 128 ≤ p → p < 256 → pos p -ℤ pos 256 ≡ negsuc (255 - p)
less p h k = rw (lt-ltb p 256 k) (ap negsuc (omega arith))

-- ---- the number of a field

pub code_far : (z : ℤ) → lt_z z (negsuc 255) ≡ true → 0 ≡ code_of z
code_far (pos n) e = absurd (never (sym e))
code_far (negsuc n) e = omega (arith, ltb-true 255 n e)

pub code_near : (z : ℤ) → lt_z z (pos 0) ≡ true → lt_z z (negsuc 255) ≡ false → z +ℤ pos 256 ≡ pos (code_of z)
code_near (pos n) e f = absurd (let h : n < 0 = ltb-true n 0 e in omega arith)
code_near (negsuc n) e f = let h : n ≤ 255 = ltb-false 255 n f in rw (le-ltb 256 (suc n) (omega arith)) (ap pos (omega arith))

pub code_le : (z : ℤ) → lt_z z (pos 0) ≡ true → code_of z ≤ 256
code_le (pos n) e = omega (arith, ltb-true n 0 e)
code_le (negsuc n) e = omega arith

pub code_pos : (z : ℤ) → lt_z z (pos 0) ≡ false → nat_abs z ≡ code_of z
code_pos (pos n) e = refl
code_pos (negsuc n) e = absurd (never e)

pub cast_pos : (z : ℤ) → lt_z z (pos 0) ≡ false → SFits w32 z → T (non_neg z) × Fits w32 (nat_abs z)
cast_pos (pos n) e f = (tt, record { fits = omega (arith, f.sfits) })
cast_pos (negsuc n) e f = absurd (never e)

-- ---- a difference of two numbers up to 65,536

pub diff : (n b : ℕ) → pos n -ℤ pos b ≡ sub_ℕ n b
diff n zero = rw (le-ltb n 0 (omega arith)) (ap pos (omega arith))
diff n (suc b) = refl

mag_sub : (n b : ℕ) → n ≤ 65536 → b ≤ 65536 → mag (sub_ℕ n b) < 2 ^ hbits w32
mag_sub n b h k = by (ltb n b) refl
  where
    by : (t : Bool) → ltb n b ≡ t → mag (cond t (negsuc (b - suc n)) (pos (n - b))) < 2 ^ 31
    by true e = omega arith
    by false e = omega arith

pub diff_fits : (n b : ℕ) → n ≤ 65536 → b ≤ 65536 → SFits w32 (pos n -ℤ pos b)
diff_fits n b h k = rw diff (record { sfits = mag_sub n b h k })
