-- Next plus a short offset is a machine's signed number.
-- Assumes nothing.
use Rattle.std.proofs.Common.{◌≡◌, ℕ, suc, ◌≤◌, false, ℤ, pos, negsuc, ◌+ℤ◌, ◌∙◌, arith, to_z-of_z, w32, SFits, to_z, of_z, ltb-false}
use mir.Facts.{to_z_pos}
use Rattle.instruction.specs.Range.{unfit}
use Rattle.instruction.specs.declared.kind.Kind.TheVariants.{Short}
use Rattle.instruction.proofs.Sign.{inside}
use Rattle.instruction.proofs.FieldSign.{diff_fits}

sum_fits : (n : ℕ) (z : ℤ) → n ≤ 65536 → unfit Short z ≡ false → SFits w32 (pos n +ℤ z)
unfolding unfit
sum_fits n (pos m) h e =
    let k : m ≤ 127 = ltb-false 127 m (inside (negsuc 127) (pos 127) (pos m) e).1 in record { sfits = omega arith }
sum_fits n (negsuc m) h e =
    let k : m ≤ 127 = ltb-false 127 m (inside (negsuc 127) (pos 127) (negsuc m) e).0 in diff_fits n (suc m) h (omega arith)

module _ (n : ℕ) (z w : ℤ) (e : w ≡ z) (h : n ≤ 65536) (f : unfit Short z ≡ false) where
  read : to_z w32 n ≡ pos n
  read = to_z_pos w32 (omega arith)

  pub short_fits : SFits w32 (to_z w32 n +ℤ w)
  short_fits = rw (e, read) (sum_fits n z h f)

  pub short_is : to_z w32 (of_z w32 (to_z w32 n +ℤ w)) ≡ pos n +ℤ z
  short_is = to_z-of_z {w = w32} short_fits ∙ rw (e, read)
