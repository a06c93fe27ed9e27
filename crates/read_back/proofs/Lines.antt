-- Lines judged part by part.
-- Assumes nothing.
use mathlib.Core.Path.{◌≡◌, refl, sym, ◌∙◌}
use mathlib.Core.Bool.{Bool, true, false, cond, ◌&&◌}
use mathlib.Core.List.{List, [], ◌∷◌}
use Prim.Native.Nat.{ℕ, ◌+◌, ◌-◌, ◌≤◌, ◌<◌}
use native.Mathlib.Omega.{arith}
use borrow.Author.Tests.{eqb-true, eqb-false, eq-eqb, ne_eqb, le-leb, lt-leb, leb-true}
use lib.Dec.{eqb, leb}
use lib.ListN.{length, get_or, take, drop, length-drop}
use lib.Seq.{get_or-take, take-take, drop-drop, length-take-le}
use Rattle.instruction.specs.declared.mode.Mode.{Mode}
use Rattle.instruction.proofs.Ands.{first_part}
use Rattle.text.specs.Four.{is_four, four_of, four_in}
use Rattle.text.specs.Hex.{all_hex}
use Rattle.text.proofs.Digits.{digit_small}
use Rattle.read_back.specs.Offsets.{position_at, position_in, are_places, is_label_rest, is_data_rest, is_start_at, by_letter_at, is_line_at}

-- four digits tell a position in memory
pub four_small : (f : List ℕ) → four_of f < 65536
unfolding four_of
four_small f = omega (arith, digit_small (get_or f 0 0), digit_small (get_or f 1 0), digit_small (get_or f 2 0), digit_small (get_or f 3 0))

-- nothing is no tab
pub no_tab : (l : List ℕ) → length l ≡ 0 → false ≡ is_data_rest l
no_tab [] h = refl
no_tab (b ∷ l) h = absurd (omega arith)

-- positions, from a place on
pub few : (l : List ℕ) → 0 < length l → length l < 5 → are_places l ≡ false
unfolding are_places
few [] h k = absurd (omega arith)
few (t ∷ []) h k = refl
few (t ∷ a ∷ []) h k = refl
few (t ∷ a ∷ b ∷ []) h k = refl
few (t ∷ a ∷ b ∷ c ∷ []) h k = refl
few (t ∷ a ∷ b ∷ c ∷ d ∷ l) h k = absurd (omega arith)

pub five : (l : List ℕ) → 5 ≤ length l → are_places l ≡ (eqb (get_or l 0 0) 9 && (all_hex (take 4 (drop 1 l)) && are_places (drop 5 l)))
unfolding are_places
five [] h = absurd (omega arith)
five (t ∷ []) h = absurd (omega arith)
five (t ∷ a ∷ []) h = absurd (omega arith)
five (t ∷ a ∷ b ∷ []) h = absurd (omega arith)
five (t ∷ a ∷ b ∷ c ∷ []) h = absurd (omega arith)
five (t ∷ a ∷ b ∷ c ∷ d ∷ l) h = refl

first_of : (l : List ℕ) → get_or (take 5 l) 0 0 ≡ get_or l 0 0
first_of [] = refl
first_of (x ∷ l) = refl

others_of : (l : List ℕ) → take 4 (drop 1 (take 5 l)) ≡ take 4 (drop 1 l)
others_of [] = refl
others_of (x ∷ l) = take-take 4 4 l (omega arith)

-- the five bytes at a place
module _ (s place : List ℕ) (i : ℕ) (k : 5 ≤ length s - i) (p : place ≡ take 5 (drop i s)) where
  next : are_places (drop i s) ≡ (eqb (get_or place 0 0) 9 && (all_hex (take 4 (drop 1 place)) && are_places (drop (i + 5) s)))
  next =
      five (drop i s) (omega (arith, length-drop i s))
      ∙ rw (p, first_of (drop i s), others_of (drop i s), drop-drop 5 i s)

  pub places_bad : (get_or place 0 0 ≡ 9 → ⊥) → are_places (drop i s) ≡ false
  places_bad n = next ∙ rw (ne_eqb (get_or place 0 0) 9 n)

  module _ (e : get_or place 0 0 ≡ 9) (b : Bool) (f : b ≡ all_hex (take 4 (drop 1 place))) where
    tested : are_places (drop i s) ≡ (b && are_places (drop (i + 5) s))
    tested = next ∙ rw (eq-eqb (get_or place 0 0) 9 e, f)

    pub places_off : b ≡ false → are_places (drop i s) ≡ false
    places_off g = tested ∙ rw g

    pub places_on : b ≡ true → are_places (drop i s) ≡ are_places (drop (i + 5) s)
    places_on g = tested ∙ rw g

-- what is left after them
pub places_left : (l : List ℕ) → length l < 5 → eqb (length l) 0 ≡ are_places l
unfolding are_places
places_left [] h = refl
places_left (t ∷ []) h = refl
places_left (t ∷ a ∷ []) h = refl
places_left (t ∷ a ∷ b ∷ []) h = refl
places_left (t ∷ a ∷ b ∷ c ∷ []) h = refl
places_left (t ∷ a ∷ b ∷ c ∷ d ∷ l) h = absurd (omega arith)

-- how each line begins
module _ (line : List ℕ) where
  pub start_short : length line < 6 → 65536 ≡ position_in line
  unfolding position_in is_start_at
  start_short h = rw (lt-leb 6 (length line) h)

  module _ (h : 6 ≤ length line) where
    pub start_tab : (get_or line 1 0 ≡ 9 → ⊥) → 65536 ≡ position_in line
    unfolding position_in is_start_at
    start_tab n = rw (le-leb 6 (length line) h, ne_eqb (get_or line 1 0) 9 n)

    pub start_four : get_or line 1 0 ≡ 9 → four_in (take 4 (drop 2 line)) ≡ position_in line
    unfolding position_in is_start_at four_in is_four four_of
    start_four t =
        let f : List ℕ = drop 2 line in
        rw (
          le-leb 6 (length line) h,
          eq-eqb (get_or line 1 0) 9 t,
          eq-eqb (length (take 4 f)) 4 (length-take-le 4 f (omega (arith, length-drop 2 line))),
          get_or-take 4 f 0 0 (omega arith),
          get_or-take 4 f 1 0 (omega arith),
          get_or-take 4 f 2 0 (omega arith),
          get_or-take 4 f 3 0 (omega arith),
        )

  -- by whether it begins so
  by_start : (p : ℕ) → p ≡ position_in line → (b : Bool) → is_start_at line ≡ b → p ≡ cond b (position_at line) 65536
  unfolding position_in
  by_start p e b f = e ∙ rw f

  pub unstarted : (mode : Mode) (p : ℕ) → p ≡ position_in line → p ≡ 65536 → is_line_at mode line ≡ false
  unfolding is_line_at
  unstarted mode p e z = by (is_start_at line) refl
    where
      by : (b : Bool) → is_start_at line ≡ b → (is_start_at line && by_letter_at mode (get_or line 0 0) line) ≡ false
      by true f = absurd (omega (arith, by_start p e true f, four_small (drop 2 line)))
      by false f = rw f

  pub begun : (p : ℕ) → p ≡ position_in line → (p ≡ 65536 → ⊥) → (is_start_at line ≡ true) × (p ≡ position_at line)
  begun p e n = by (is_start_at line) refl
    where
      by : (b : Bool) → is_start_at line ≡ b → (is_start_at line ≡ true) × (p ≡ position_at line)
      by true f = (f, by_start p e true f)
      by false f = absurd (n (by_start p e false f))

  -- what the letter says is what the line is
  module _ (s : is_start_at line ≡ true) where
    pub start_long : 6 ≤ length line
    unfolding is_start_at
    start_long = leb-true 6 (length line) (first_part (leb 6 (length line)) _ s)

    pub started : (mode : Mode) → by_letter_at mode (get_or line 0 0) line ≡ is_line_at mode line
    unfolding is_line_at
    started mode = rw s

    -- nothing after the position
    pub ended : eqb (length line) 6 ≡ is_label_rest (drop 6 line)
    ended = by (eqb (length line) 6) refl
      where
        by : (b : Bool) → eqb (length line) 6 ≡ b → eqb (length line) 6 ≡ is_label_rest (drop 6 line)
        by true e = e ∙ sym (eq-eqb (length (drop 6 line)) 0 (omega (arith, eqb-true (length line) 6 e, length-drop 6 line)))
        by false e = e ∙ sym (ne_eqb (length (drop 6 line)) 0 (λ z. eqb-false (length line) 6 e (omega (arith, z, start_long, length-drop 6 line))))
