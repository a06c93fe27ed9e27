-- The first line of a text, and the others.
-- Assumes nothing.
use Prim.Native.Nat.{ℕ, zero, suc}
use mathlib.Core.Bool.{Bool, true, false, cond}
use mathlib.Core.List.{List, [], ◌∷◌}
use mathlib.Core.Path.{◌≡◌, refl, sym, ap, ◌∙◌}
use lib.Dec.{eqb}
use lib.ListN.{length, take, drop}
use Rattle.text.specs.Cut.{before, cut, up_to, lines}
use Rattle.list_text.specs.Text.{first, others}

first_before : (b : ℕ) (ls : List (List ℕ)) → first (before b ls) ≡ b ∷ first ls
first_before b [] = refl
first_before b (l ∷ ls) = refl

others_before : (b : ℕ) (ls : List (List ℕ)) → others (before b ls) ≡ others ls
others_before b [] = refl
others_before b (l ∷ ls) = refl

pub first_is : (h : List ℕ) → first (lines h) ≡ up_to 10 h
unfolding cut up_to
first_is [] = refl
first_is (b ∷ h) = by (eqb b 10) (first_is h)
  where
    by : (x : Bool) → first (lines h) ≡ up_to 10 h → first (cond x ([] ∷ lines h) (before b (lines h))) ≡ cond x [] (b ∷ up_to 10 h)
    by true e = refl
    by false e = first_before b (lines h) ∙ ap (λ (l : List ℕ). b ∷ l) e

pub others_are : (h : List ℕ) → others (lines h) ≡ lines (drop (suc (length (up_to 10 h))) h)
unfolding cut up_to
others_are [] = refl
others_are (b ∷ h) = by (eqb b 10) (others_are h)
  where
    by : (x : Bool) → others (lines h) ≡ lines (drop (suc (length (up_to 10 h))) h)
        → others (cond x ([] ∷ lines h) (before b (lines h))) ≡ lines (drop (suc (length (cond x [] (b ∷ up_to 10 h)))) (b ∷ h))
    by true e = refl
    by false e = others_before b (lines h) ∙ e

pub up_to_taken : (n : ℕ) (h : List ℕ) → up_to 10 (take n h) ≡ take n (up_to 10 h)
unfolding up_to
up_to_taken zero [] = refl
up_to_taken zero (b ∷ h) = refl
up_to_taken (suc n) [] = refl
up_to_taken (suc n) (b ∷ h) = by (eqb b 10) (up_to_taken n h)
  where
    by : (x : Bool) → up_to 10 (take n h) ≡ take n (up_to 10 h) → cond x [] (b ∷ up_to 10 (take n h)) ≡ take (suc n) (cond x [] (b ∷ up_to 10 h))
    by true e = refl
    by false e = ap (λ (l : List ℕ). b ∷ l) e
