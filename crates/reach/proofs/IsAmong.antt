-- The test for a position that stands in a list says what it is meant to. Assumes nothing.
use mathlib.Core.Bool.{Bool, true, false, ◌||◌}
use mathlib.Core.Path.{◌≡◌, refl}
use mathlib.Core.Logic.{⊎_elim}
use mathlib.Core.List.Memᴰ
use mathlib.Core.List.{[], ◌∷◌, Memᴰ as Among}
use lib.Dec.{eqb}
use borrow.Author.Tests.{eqb-true, eq-eqb}
use Rattle.reach.specs.ClaimsTests.{AmongTest}
use Rattle.reach.specs.HowMany.{is_among}
use Rattle.reach.proofs.Cases.{not_both}

pub among_test : AmongTest
unfolding is_among
among_test q [] = (λ e. absurd (not_both e refl), λ i. absurd (Memᴰ.not-nil i))
among_test q (p ∷ l) =
    let rest = among_test q l in
    (λ e. by rest.0 (eqb q p) refl e, λ i. ⊎_elim (λ e. first (eq-eqb q p e)) (λ j. later (eqb q p) (rest.1 j)) (Memᴰ.cases_cons i))
  where
    by : (is_among q l ≡ true → Among q l) → (b : Bool) → eqb q p ≡ b → (b || is_among q l) ≡ true → Among q (p ∷ l)
    by rest true h e = Among.head (eqb-true q p h)
    by rest false h e = Among.tail (rest e)

    first : eqb q p ≡ true → (eqb q p || is_among q l) ≡ true
    first h = rw h

    later : (b : Bool) → is_among q l ≡ true → (b || is_among q l) ≡ true
    later true h = refl
    later false h = h
