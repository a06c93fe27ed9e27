-- Laws of the mark values: which are traced, and the test for it. Assumes nothing.
use Prim.Native.Nat.{ℕ, ◌<◌, ◌≤◌}
use native.Mathlib.Omega.{arith}
use mathlib.Core.Bool.{Bool, true, false, ◌||◌}
use mathlib.Core.Path.{◌≡◌, refl, ap}
use mathlib.Core.Logic.{◌⊎◌, inl, inr, ◌≢◌}
use lib.Dec.{eqb}
use borrow.Author.Tests.{ne_eqb, eqb-true, eqb-false}
use Rattle.reach.specs.ClaimsTests.{TracedTest}
use Rattle.reach.specs.Mark.{waiting, IsTraced, IsLive, traced_mark}

pub live_ne : {v : ℕ} → IsLive v → v ≢ 0
live_ne (inl e) z = omega arith
live_ne (inr (inl e)) z = omega arith
live_ne (inr (inr e)) z = omega arith

-- what waits is not traced
pub waits_not : {v : ℕ} → v ≡ waiting → IsTraced v → ⊥
waits_not e (inl t) = omega arith
waits_not e (inr t) = omega arith

-- the test says what it is meant to
pub traced_test : TracedTest
unfolding traced_mark
traced_test v = (λ e. by (eqb v 2) refl e, back)
  where
    by : (b : Bool) → eqb v 2 ≡ b → (b || eqb v 3) ≡ true → IsTraced v
    by true h f = inl (eqb-true v 2 h)
    by false h f = inr (eqb-true v 3 f)

    back : IsTraced v → (eqb v 2 || eqb v 3) ≡ true
    back (inl e) = ap (λ (x : ℕ). eqb x 2 || eqb x 3) e
    back (inr e) = ap (λ (x : ℕ). eqb x 2 || eqb x 3) e

-- the test by comparing, as code does it
pub traced_between : (v : ℕ) → 2 ≤ v → v ≤ 3 → traced_mark v ≡ true
traced_between v h k = (traced_test v).1 (by (eqb v 2) refl)
  where
    by : (b : Bool) → eqb v 2 ≡ b → IsTraced v
    by true e = inl (eqb-true v 2 e)
    by false e = inr (omega (arith, eqb-false v 2 e))

pub untraced_outside : (v : ℕ) → (v < 2) ⊎ (3 < v) → traced_mark v ≡ false
unfolding traced_mark
untraced_outside v (inl h) = simp (ne_eqb v 2 (λ e. omega arith), ne_eqb v 3 (λ e. omega arith))
untraced_outside v (inr h) = simp (ne_eqb v 2 (λ e. omega arith), ne_eqb v 3 (λ e. omega arith))
