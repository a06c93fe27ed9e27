-- The test for an open position says what it is meant to. Assumes nothing.
use Prim.Native.Nat.{ℕ, ◌≤◌}
use native.Mathlib.Omega.{arith}
use mathlib.Core.Bool.{Bool, true, false, ◌&&◌}
use mathlib.Core.Path.{◌≡◌, refl}
use mathlib.Core.Logic.{◌⊎◌, inl, inr, ◌≢◌}
use mathlib.Core.List.{List}
use lib.ListN.{get_or}
use lib.Dec.{ltb, eqb}
use borrow.Author.Tests.{ltb-true, eqb-true, lt-ltb, eq-eqb}
use Rattle.reach.specs.ClaimsTests.{OpenTest}
use Rattle.reach.specs.Note.{Open, is_open}
use Rattle.reach.proofs.Cases.{yes_or_no, Decided}

module _ (n : ℕ) (m : List ℕ) (t : ℕ) where
  pub open_yes : Open n m t → is_open n m t ≡ true
  unfolding is_open
  open_yes o = simp (lt-ltb t n o.inside, eq-eqb (get_or m t 0) 0 o.clear)

  pub yes_open : is_open n m t ≡ true → Open n m t
  unfolding is_open
  yes_open e = by (ltb t n) refl e
    where
      by : (b : Bool) → ltb t n ≡ b → (b && eqb (get_or m t 0) 0) ≡ true → Open n m t
      by true h f = record { inside = ltb-true t n h; clear = eqb-true (get_or m t 0) 0 f }
      by false h f = let z : ◌≡◌ {A = ℕ} 0 1 = cc in absurd (omega arith)

  pub open_no : (Open n m t → ⊥) → is_open n m t ≡ false
  open_no no_way = by (yes_or_no (is_open n m t))
    where
      by : (is_open n m t ≡ true) ⊎ (is_open n m t ≡ false) → is_open n m t ≡ false
      by (inl e) = absurd (no_way (yes_open e))
      by (inr e) = e

  pub open_or_shut : Decided (Open n m t)
  open_or_shut = by (yes_or_no (is_open n m t))
    where
      by : (is_open n m t ≡ true) ⊎ (is_open n m t ≡ false) → Decided (Open n m t)
      by (inl e) = inl (yes_open e)
      by (inr e) = inr (λ o. let z : ◌≡◌ {A = ℕ} 0 1 = cc (open_yes o) in absurd (omega arith))

-- outside the image, or with a mark that is not 0, it is not open
pub outside_shut : (n : ℕ) (m : List ℕ) (t : ℕ) → n ≤ t → Open n m t → ⊥
outside_shut n m t h o = omega (arith, o.inside)

pub marked_shut : (n : ℕ) (m : List ℕ) (t : ℕ) → get_or m t 0 ≢ 0 → Open n m t → ⊥
marked_shut n m t h o = h o.clear

pub open_test : OpenTest
open_test n m t = (yes_open n m t, open_yes n m t)
