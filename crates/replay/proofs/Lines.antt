-- A line by its bytes, test after test.
-- Assumes nothing.
use Prim.Native.Nat.{ℕ}
use mathlib.Core.Path.{◌≡◌, refl}
use mathlib.Core.Bool.{Bool, true, false, cond, ◌&&◌}
use mathlib.Core.List.{List}
use lib.Dec.{eqb}
use lib.ListN.{length, get_or}
use borrow.Author.Tests.{eq-eqb, ne_eqb}
use Rattle.text.specs.Four.{is_four, four_of, four_in}
use Rattle.replay.specs.Line.{digits_in, is_line, position_of}

module _ (l : List ℕ) where
  abbrev parts : Bool → Bool → Bool → Bool → Bool → ℕ
  parts a b c d e = cond (a && (b && (c && (d && e)))) (four_of (digits_in l)) 65536

  -- by its five tests
  pub tested : (a b c d e : Bool) → eqb (length l) 7 ≡ a → eqb (get_or l 0 0) 80 ≡ b → eqb (get_or l 1 0) 9 ≡ c → eqb (get_or l 6 0) 10 ≡ d
      → is_four (digits_in l) ≡ e → parts a b c d e ≡ position_of l
  unfolding position_of is_line
  tested a b c d e p q r s t = rw (p, q, r, s, t) refl

  pub no_letter : length l ≡ 7 → (get_or l 0 0 ≡ 80 → ⊥) → 65536 ≡ position_of l
  no_letter h n = tested true false _ _ _ (eq-eqb (length l) 7 h) (ne_eqb (get_or l 0 0) 80 n) refl refl refl

  pub no_tab : length l ≡ 7 → get_or l 0 0 ≡ 80 → (get_or l 1 0 ≡ 9 → ⊥) → 65536 ≡ position_of l
  no_tab h i n = tested true true false _ _ (eq-eqb (length l) 7 h) (eq-eqb (get_or l 0 0) 80 i) (ne_eqb (get_or l 1 0) 9 n) refl refl

  pub no_end : length l ≡ 7 → get_or l 0 0 ≡ 80 → get_or l 1 0 ≡ 9 → (get_or l 6 0 ≡ 10 → ⊥) → 65536 ≡ position_of l
  no_end h i j n =
      tested true true true false _ (eq-eqb (length l) 7 h) (eq-eqb (get_or l 0 0) 80 i) (eq-eqb (get_or l 1 0) 9 j) (ne_eqb (get_or l 6 0) 10 n) refl

  pub by_digits : length l ≡ 7 → get_or l 0 0 ≡ 80 → get_or l 1 0 ≡ 9 → get_or l 6 0 ≡ 10 → four_in (digits_in l) ≡ position_of l
  unfolding four_in
  by_digits h i j k =
      tested true true true true (is_four (digits_in l)) (eq-eqb (length l) 7 h) (eq-eqb (get_or l 0 0) 80 i) (eq-eqb (get_or l 1 0) 9 j)
      (eq-eqb (get_or l 6 0) 10 k) refl
