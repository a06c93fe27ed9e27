-- Marks that no view refuses: none is damaged, and every traced instruction fits.
-- Assumes nothing.
use mathlib.Core.Path.{◌≡◌, refl, sym, ap, ◌∙◌}
use mathlib.Core.Bool.{Bool, true, false, not, ◌&&◌, ◌||◌}
use mathlib.Core.List.{List}
use Prim.Native.Nat.{ℕ, zero, suc, ◌+◌, ◌/◌, ◌%◌, ◌<◌, ◌≤◌}
use native.Mathlib.Omega.{arith}
use lib.Dec.{eqb}
use lib.ListN.{length, get_or}
use borrow.Author.Tests.{eqb-true, eqb-false, ltb-false, leb-true}
use Rattle.instruction.specs.Answer.{Answer, accepted, Refusal, judge}
use Rattle.instruction.proofs.Sign.{never}
use Rattle.instruction.proofs.Accepting.{passed}
use Rattle.targets.specs.At.{size_here, fits_here}
use Rattle.reach.specs.Mark.{traced_mark}
use Rattle.marks.specs.Refusals.{damaged}
use Rattle.views.specs.Positions.{up_from}
use Rattle.views.specs.View.{Sound, off_jmpf, misplaced, damaged_here, damage_in, view_refusals}

abbrev Passes : List Refusal → Type 0
Passes rs = ◌≡◌ {A = Answer ℕ} (judge rs 0) (accepted 0)

pub fits_within : (image : List ℕ) (p : ℕ) → fits_here image p ≡ true → p + size_here image p ≤ length image
unfolding fits_here
fits_within image p e = leb-true (p + size_here image p) (length image) e

-- a mark that is not over 4, by the bit that 2 and 3 have
pub by_bit : (v : ℕ) → v ≤ 4 → eqb (v / 2 % 2) 1 ≡ traced_mark v
unfolding traced_mark
by_bit zero h = refl
by_bit (suc zero) h = refl
by_bit (suc (suc zero)) h = refl
by_bit (suc (suc (suc zero))) h = refl
by_bit (suc (suc (suc (suc zero)))) h = refl
by_bit (suc (suc (suc (suc (suc v))))) h = absurd (omega arith)

module _ (image m : List ℕ) where
  each : (k q : ℕ) → Passes (damage_in image m (up_from k q)) → (p : ℕ) → q ≤ p → p < q + k → damaged_here image m p ≡ false
  unfolding up_from
  each zero q e p l h = absurd (omega arith)
  each (suc k) q e p l h = by (eqb q p) refl (passed _ _ _ e) (λ f g. each k (suc q) f p g (omega arith))
    where
      by : (t : Bool) → eqb q p ≡ t → (damaged_here image m q ≡ false) × Passes (damage_in image m (up_from k (suc q)))
          → (Passes (damage_in image m (up_from k (suc q))) → suc q ≤ p → damaged_here image m p ≡ false) → damaged_here image m p ≡ false
      by true d f rest = ap (damaged_here image m) (sym (eqb-true q p d)) ∙ f.0
      by false d f rest = rest f.1 (let n : q ≡ p → ⊥ = eqb-false q p d in omega arith)

  pub undamaged : Sound image m → (p : ℕ) → p < length image → damaged_here image m p ≡ false
  unfolding view_refusals
  undamaged s p h = each (length image) 0 (passed _ _ _ (passed _ _ _ s).1).1 p (omega arith) (omega arith)

  pub at_most_four : (p : ℕ) → damaged_here image m p ≡ false → get_or m p 0 ≤ 4
  unfolding damaged_here
  at_most_four p e = ltb-false 4 (get_or m p 0) (by (damaged (get_or m p 0)) (misplaced image (get_or m p 0) p) e)
    where
      by : (a b : Bool) → (a || b) ≡ false → a ≡ false
      by true b g = absurd (never g)
      by false b g = refl

  pub fitting : (p : ℕ) → damaged_here image m p ≡ false → traced_mark (get_or m p 0) ≡ true → fits_here image p ≡ true
  unfolding damaged_here misplaced
  fitting p e t = by (damaged (get_or m p 0)) (traced_mark (get_or m p 0)) (fits_here image p) (off_jmpf image (get_or m p 0) p) e t
    where
      by : (a b f c : Bool) → (a || ((b && not f) || c)) ≡ false → b ≡ true → f ≡ true
      by true b f c g h = absurd (never g)
      by false true true c g h = refl
      by false true false c g h = absurd (never g)
      by false false f c g h = absurd (never (sym h))
