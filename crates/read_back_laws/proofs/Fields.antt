-- A line's fields hold no tab and no byte 10, so a line is cut off whole, and its fields are those that it was put together of.
-- Assumes nothing.
use mathlib.Core.Path.{◌≡◌, refl, ap}
use mathlib.Core.Bool.{Bool, true, false, ◌&&◌}
use mathlib.Core.List.{List, [], ◌∷◌, ◌++◌, map}
use Prim.Native.Nat.{ℕ, ◌<◌}
use native.Mathlib.Omega.{arith}
use lib.Dec.{ltb, eqb}
use borrow.Author.Tests.{ltb-true, ne_eqb}
use Rattle.text.specs.Cut.{before, cut, lines}
use Rattle.instruction.proofs.Ands.{first_part, second_part}
use Rattle.listing.specs.Hex.{hex2, hex3, hex4, hexes}
use Rattle.listing.specs.Line.{fields_text, line}
use Rattle.read_back.proofs.Pieces.{tabbed, NoTab, NoTabs}
use Rattle.read_back_laws.proofs.Digits.{digit_above}

-- every byte is above 10
abbrev pub above : List ℕ → Bool
above [] = true
above (b ∷ l) = ltb 10 b && above l

abbrev pub all_above : List (List ℕ) → Bool
all_above [] = true
all_above (f ∷ fs) = above f && all_above fs

pub four_above : (p : ℕ) → above (hex4 p) ≡ true
unfolding hex4 hex3 hex2
four_above p = simp digit_above

pub fours_above : (ps : List ℕ) → all_above (map hex4 ps) ≡ true
fours_above [] = refl
fours_above (p ∷ ps) = rw (four_above p) (fours_above ps)

pub bytes_above : (bs : List ℕ) → above (hexes bs) ≡ true
unfolding hexes hex2
bytes_above [] = refl
bytes_above (b ∷ bs) = simp digit_above (bytes_above bs)

other : (b : ℕ) (s : ℕ) → s < 11 → ltb 10 b ≡ true → eqb b s ≡ false
other b s h e = let k : 10 < b = ltb-true 10 b e in ne_eqb b s (λ q. omega arith)

-- no field has a tab
no_tab : (f : List ℕ) → above f ≡ true → NoTab f
no_tab [] h = tt
no_tab (b ∷ f) h = (other b 9 (omega arith) (first_part (ltb 10 b) (above f) h), no_tab f (second_part (ltb 10 b) (above f) h))

pub no_tabs : (fs : List (List ℕ)) → all_above fs ≡ true → NoTabs fs
no_tabs [] h = tt
no_tabs (f ∷ fs) h = (no_tab f (first_part (above f) (all_above fs) h), no_tabs fs (second_part (above f) (all_above fs) h))

module _ (rest : List ℕ) where
  -- this text is this line, with its byte 10
  abbrev Cuts : List ℕ → List ℕ → Type 0
  Cuts t l = lines (t ++ rest) ≡ l ∷ lines rest

  cuts_end : Cuts (10 ∷ []) []
  unfolding cut
  cuts_end = refl

  cuts_byte : (b : ℕ) (t l : List ℕ) → eqb b 10 ≡ false → Cuts t l → Cuts (b ∷ t) (b ∷ l)
  unfolding cut
  cuts_byte b t l e c = rw e (ap (before b) c)

  cuts_field : (f t l : List ℕ) → above f ≡ true → Cuts t l → Cuts (f ++ t) (f ++ l)
  cuts_field [] t l h c = c
  cuts_field (b ∷ f) t l h c =
      cuts_byte b (f ++ t) (f ++ l) (other b 10 (omega arith) (first_part (ltb 10 b) (above f) h)) (cuts_field f t l (second_part (ltb 10 b) (above f) h) c)

  cuts_fields : (fs : List (List ℕ)) → all_above fs ≡ true → Cuts (fields_text fs) (tabbed fs)
  unfolding fields_text
  cuts_fields [] h = cuts_end
  cuts_fields (f ∷ fs) h =
      cuts_byte 9 (f ++ fields_text fs) (f ++ tabbed fs) refl
      (cuts_field f (fields_text fs) (tabbed fs) (first_part (above f) (all_above fs) h) (cuts_fields fs (second_part (above f) (all_above fs) h)))

  pub cuts_line : (c : ℕ) (fs : List (List ℕ)) → eqb c 10 ≡ false → all_above fs ≡ true → lines (line c fs ++ rest) ≡ (c ∷ tabbed fs) ∷ lines rest
  cuts_line c fs e h = cuts_byte c (fields_text fs) (tabbed fs) e (cuts_fields fs h)
