-- Two tests joined: what follows from each, and what each follows from.
-- Assumes nothing.
use Rattle.std.proofs.Common.{◌≡◌, Bool, true, false, ◌&&◌, sym, refl}
use Rattle.instruction.proofs.Sign.{never}

module _ (a b : Bool) where
  pub both : a ≡ true → b ≡ true → (a && b) ≡ true
  both e f = rw (e, f)

  pub not_first : a ≡ false → (a && b) ≡ false
  not_first e = rw e

pub not_second : (a b : Bool) → b ≡ false → (a && b) ≡ false
not_second true b e = e
not_second false b e = refl

pub first_alone : (a b : Bool) → b ≡ true → (a && b) ≡ a
first_alone true b e = e
first_alone false b e = refl

pub first_part : (a b : Bool) → (a && b) ≡ true → a ≡ true
first_part true b e = refl
first_part false b e = absurd (never (sym e))

pub second_part : (a b : Bool) → (a && b) ≡ true → b ≡ true
second_part true b e = e
second_part false b e = absurd (never (sym e))
