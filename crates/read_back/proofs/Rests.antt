-- What stands after a line's position, by the places of its bytes and by its fields.
-- Assumes nothing.
use mathlib.Core.Path.{◌≡◌, refl, sym, ap, ◌∙◌}
use mathlib.Core.Bool.{Bool, true, false, cond, ◌&&◌}
use mathlib.Core.List.{List, [], ◌∷◌, ◌++◌, append-nil}
use Prim.Native.Nat.{ℕ, zero, suc, ◌*◌, ◌<◌}
use native.Mathlib.Omega.{arith}
use borrow.Author.Tests.{eqb-false, ne_eqb, le-leb, ltb-true, ltb-false}
use lib.Dec.{eqb, leb, ltb}
use lib.ListN.{length, get_or, take, drop, length-append}
use Rattle.instruction.proofs.Ands.{first_part, second_part, not_first, not_second}
use Rattle.instruction.specs.declared.mode.Mode.{Mode}
use Rattle.text.specs.Bytes.{bytes_of, is_bytes}
use Rattle.text.specs.Cut.{up_to}
use Rattle.text.specs.Four.{is_four, all_four}
use Rattle.text.specs.Hex.{is_digit, all_hex}
use Rattle.text.proofs.Fours.{four_parts}
use Rattle.listing.specs.Hex.{hex2, hex3, hex4}
use Rattle.listing.specs.Line.{fields_text}
use Rattle.listing.specs.Lines.{instr_text, code_by, code_line}
use Rattle.targets.specs.Here.{here_of}
use Rattle.targets.specs.Targets.{next_of}
use Rattle.std.specs.Prelude.{Result, Ok, Err}
use Rattle.instruction.specs.declared.instr.Instr.{Instr}
use Rattle.targets.specs.declared.not_whole.NotWhole.{NotWhole}
use Rattle.targets.specs.declared.not_whole.NotWhole.TheVariants.{Cut, Outside}
use Rattle.read_back.specs.Line.{is_label, is_found, is_data, is_code}
use Rattle.read_back.specs.Offsets.{are_places, is_label_rest, is_found_rest, is_data_rest}
use Rattle.read_back.proofs.Lines.{few, five}
use Rattle.read_back.proofs.Pieces.{tabbed, NoTab, NoTabs}
use Rattle.text.proofs.Sames.{same_false}

-- a tab is no digit
pub tab_among : (k : ℕ) (g t : List ℕ) → length g < k → all_hex (take k (g ++ 9 ∷ t)) ≡ false
unfolding all_hex
tab_among zero g t h = absurd (omega arith)
tab_among (suc k) [] t h = refl
tab_among (suc k) (a ∷ g) t h = not_second (is_digit a) _ (tab_among k g t (omega arith))

tab_within : (g t : List ℕ) → all_hex (g ++ 9 ∷ t) ≡ false
unfolding all_hex
tab_within [] t = refl
tab_within (a ∷ g) t = not_second (is_digit a) _ (tab_within g t)

pub not_four : (g : List ℕ) → (length g ≡ 4 → ⊥) → is_four g ≡ false
unfolding is_four
not_four g n = rw (ne_eqb (length g) 4 n)

-- `L`
pub label_is : (gs : List (List ℕ)) → is_label_rest (tabbed gs) ≡ is_label gs
label_is [] = refl
label_is (g ∷ gs) = ne_eqb (length (tabbed (g ∷ gs))) 0 (λ e. omega arith)

-- `O` and `A`
pub places_off : (x : ℕ) (r : List ℕ) → eqb x 9 ≡ false → are_places (x ∷ r) ≡ false
unfolding are_places
places_off x [] e = refl
places_off x (a ∷ []) e = refl
places_off x (a ∷ b ∷ []) e = refl
places_off x (a ∷ b ∷ c ∷ []) e = refl
places_off x (a ∷ b ∷ c ∷ d ∷ r) e = rw e

places_short : (g : List ℕ) (gs : List (List ℕ)) → length g < 4 → are_places (9 ∷ g ++ tabbed gs) ≡ false
places_short g [] h = few (9 ∷ g ++ []) (omega arith) (omega (arith, length-append g []))
places_short g (k ∷ ks) h = by (ltb (length l) 5) refl
  where
    l : List ℕ
    l = 9 ∷ g ++ tabbed (k ∷ ks)

    by : (b : Bool) → ltb (length l) 5 ≡ b → are_places l ≡ false
    by true e = few l (omega arith) (ltb-true (length l) 5 e)
    by false e = five l (ltb-false (length l) 5 e) ∙ rw (tab_among 4 g (k ++ tabbed ks) h)

places_are : (gs : List (List ℕ)) → NoTabs gs → are_places (tabbed gs) ≡ all_four gs
unfolding are_places all_four is_four
places_are [] n = refl
places_are ([] ∷ gs) n = places_short [] gs (omega arith)
places_are ((a ∷ []) ∷ gs) n = places_short (a ∷ []) gs (omega arith)
places_are ((a ∷ b ∷ []) ∷ gs) n = places_short (a ∷ b ∷ []) gs (omega arith)
places_are ((a ∷ b ∷ c ∷ []) ∷ gs) n = places_short (a ∷ b ∷ c ∷ []) gs (omega arith)
places_are ((a ∷ b ∷ c ∷ d ∷ []) ∷ gs) n = ap (λ (x : Bool). all_hex (a ∷ b ∷ c ∷ d ∷ []) && x) (places_are gs n.1)
places_are ((a ∷ b ∷ c ∷ d ∷ x ∷ g) ∷ gs) n =
    not_second (all_hex (a ∷ b ∷ c ∷ d ∷ [])) _ (places_off x (g ++ tabbed gs) n.0.1.1.1.1.0)
    ∙ sym (not_first (is_four (a ∷ b ∷ c ∷ d ∷ x ∷ g)) (all_four gs) (not_four (a ∷ b ∷ c ∷ d ∷ x ∷ g) (λ e. omega arith)))

pub found_is : (gs : List (List ℕ)) → NoTabs gs → is_found_rest (tabbed gs) ≡ is_found gs
found_is [] n = refl
found_is (g ∷ gs) n = rw (le-leb 1 (length (tabbed (g ∷ gs))) (omega arith)) (places_are (g ∷ gs) n)

-- five bytes for each
pub fives : (gs : List (List ℕ)) → all_four gs ≡ true → length (tabbed gs) ≡ length gs * 5
unfolding all_four
fives [] e = refl
fives (g ∷ gs) e =
    omega (arith, length-append g (tabbed gs), (four_parts g (first_part (is_four g) (all_four gs) e)).0, fives gs (second_part (is_four g) (all_four gs) e))

-- `D`
no_bytes : (l : List ℕ) → all_hex l ≡ false → is_bytes 16 l ≡ false
unfolding is_bytes
no_bytes l e = not_second (eqb (length l) (length (bytes_of l) * 2) && leb 1 (length (bytes_of l)) && leb (length (bytes_of l)) 16) (all_hex l) e

pub data_is : (gs : List (List ℕ)) → is_data_rest (tabbed gs) ≡ is_data gs
data_is [] = refl
data_is (g ∷ []) = ap (is_bytes 16) (append-nil g)
data_is (g ∷ h ∷ gs) = no_bytes (g ++ tabbed (h ∷ gs)) (tab_within g (h ++ tabbed gs))

-- the digits of `I` and `D`
up_to_lem : (g : List ℕ) (gs : List (List ℕ)) → NoTab g → up_to 9 (g ++ tabbed gs) ≡ g
unfolding up_to
up_to_lem [] [] n = refl
up_to_lem [] (h ∷ gs) n = refl
up_to_lem (b ∷ g) gs n = rw n.0 (ap (λ (l : List ℕ). b ∷ l) (up_to_lem g gs n.1))

pub digits_are : (gs : List (List ℕ)) → NoTabs gs → up_to 9 (drop 1 (tabbed gs)) ≡ get_or gs 0 []
unfolding up_to
digits_are [] n = refl
digits_are (g ∷ gs) n = up_to_lem g gs n.0

-- a tab stands after the position of a printed `I` line
pub seventh : (mode : Mode) (p : ℕ) (bytes : List ℕ) → 0 < length (code_line mode p bytes) → get_or (code_line mode p bytes) 6 0 ≡ 9
unfolding code_line instr_text fields_text hex4 hex3 hex2
seventh mode p bytes h = by (here_of bytes 0) h
  where
    by : (x : Result Instr NotWhole) → 0 < length (code_by mode p bytes x) → get_or (code_by mode p bytes x) 6 0 ≡ 9
    by (Ok i) h = is (ltb 65536 (next_of p i)) h
      where
        is : (b : Bool) → 0 < length (cond b [] (instr_text mode p i bytes)) → get_or (cond b [] (instr_text mode p i bytes)) 6 0 ≡ 9
        is true h = absurd (omega arith)
        is false h = refl
    by (Err (Cut c)) h = absurd (omega arith)
    by (Err Outside) h = absurd (omega arith)

pub not_code : (mode : Mode) (p : ℕ) (bytes : List ℕ) (c t a b d e x : ℕ) (r : List ℕ) → eqb x 9 ≡ false
    → is_code mode p bytes (c ∷ t ∷ a ∷ b ∷ d ∷ e ∷ x ∷ r) ≡ false
unfolding is_code
not_code mode p bytes c t a b d e x r n =
    same_false (c ∷ t ∷ a ∷ b ∷ d ∷ e ∷ x ∷ r ++ 10 ∷ []) (code_line mode p bytes)
    (λ q. eqb-false x 9 n (ap (λ (l : List ℕ). get_or l 6 0) q ∙ seventh mode p bytes (omega (arith, ap length q))))
