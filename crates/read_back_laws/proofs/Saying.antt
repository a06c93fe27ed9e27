-- What each printed line says, read by the definitions of reading.
-- Assumes nothing.
use mathlib.Core.Path.{◌≡◌, refl, sym, ap, ◌∙◌}
use mathlib.Core.Bool.{true, false, ◌&&◌}
use mathlib.Core.List.{List, [], ◌∷◌, ◌++◌, map, append_assoc, append-nil}
use Prim.Native.Nat.{ℕ, ◌<◌, ◌≤◌}
use Prim.Native.Char.{code}
use native.Mathlib.Omega.{arith}
use lib.Dec.{eqb}
use lib.ListN.{length, get_or, drop}
use borrow.Author.Tests.{eq-eqb}
use Rattle.instruction.specs.declared.mode.Mode.{Mode}
use Rattle.text.specs.Bytes.{bytes_of}
use Rattle.text.specs.Cut.{fields}
use Rattle.text.specs.Four.{is_four, all_four, four_of}
use Rattle.text.proofs.Pairs.{few}
use Rattle.listing.specs.Hex.{hex2, hex3, hex4, hexes}
use Rattle.listing.specs.Line.{fields_text, line}
use Rattle.listing.specs.Lines.{code_line}
use Rattle.listing.proofs.Hexing.{hexes_length}
use Rattle.text.specs.Same.{same}
use Rattle.read_back.specs.Line.{position_on, bytes_on, further_on, is_start, is_label, is_found, is_data, is_code, by_letter, is_line}
use Rattle.read_back.specs.Sheet.{listed_on}
use Rattle.read_back.proofs.Pieces.{tabbed, fields_are}
use Rattle.read_back_laws.proofs.Digits.{four_back, four_hex, Small, bytes_back, bytes_hex}
use Rattle.read_back_laws.proofs.Fields.{all_above, no_tabs, four_above, fours_above, bytes_above}
use Rattle.read_back_laws.proofs.Steps.{LineSays}

-- a letter, the position and further fields
abbrev pub body : ℕ → ℕ → List (List ℕ) → List ℕ
body c p fs = c ∷ tabbed (hex4 p ∷ fs)

-- read by its fields
module _ (mode : Mode) (c p : ℕ) (fs : List (List ℕ)) (small : p < 65536) (n : eqb c 9 ≡ false) (a : all_above fs ≡ true) where
  cuts : fields (body c p fs) ≡ (c ∷ []) ∷ hex4 p ∷ fs
  cuts = fields_are c [] (hex4 p ∷ fs) (n, tt) (no_tabs (hex4 p ∷ fs) (rw (four_above p) a))

  further : further_on (body c p fs) ≡ fs
  further = ap (λ (gs : List (List ℕ)). drop 2 gs) cuts

  position : position_on (body c p fs) ≡ p
  position = ap (λ (gs : List (List ℕ)). four_of (get_or gs 1 [])) cuts ∙ ap four_of (sym (append-nil (hex4 p))) ∙ four_back p [] small

  starts : is_start (body c p fs) ≡ true
  unfolding is_start is_four hex4 hex3 hex2
  starts = ap (λ (gs : List (List ℕ)). eqb (length (get_or gs 0 [])) 1 && is_four (get_or gs 1 [])) cuts ∙ four_hex p

  said : (bs : List ℕ) → by_letter mode c (body c p fs) ≡ true → listed_on (body c p fs) ≡ bs → LineSays mode c p bs (body c p fs)
  unfolding is_line
  said bs e f = record { fits = rw starts e; letter = refl; position = position; lists = f }

-- `L`
pub said_label : (mode : Mode) (p : ℕ) → p < 65536 → LineSays mode (code "L") p [] (body (code "L") p [])
said_label mode p h = said mode (code "L") p [] h refl refl [] (ap is_label (further mode (code "L") p [] h refl refl)) refl

-- `O` and `A`
fours : (qs : List ℕ) → all_four (map hex4 qs) ≡ true
unfolding all_four is_four hex4 hex3 hex2
fours [] = refl
fours (q ∷ qs) = rw (four_hex q) (fours qs)

module _ (mode : Mode) (p q : ℕ) (qs : List ℕ) (h : p < 65536) where
  abbrev found : List (List ℕ)
  found = map hex4 (q ∷ qs)

  pub said_overlaps : LineSays mode (code "O") p [] (body (code "O") p found)
  said_overlaps = said mode (code "O") p found h refl (fours_above (q ∷ qs)) []
      (ap is_found (further mode (code "O") p found h refl (fours_above (q ∷ qs))) ∙ fours (q ∷ qs)) refl

  pub said_arrivals : LineSays mode (code "A") p [] (body (code "A") p found)
  said_arrivals = said mode (code "A") p found h refl (fours_above (q ∷ qs)) []
      (ap is_found (further mode (code "A") p found h refl (fours_above (q ∷ qs))) ∙ fours (q ∷ qs)) refl

-- the bytes of `I` and `D`
bytes_on_lem : Mode → (c p : ℕ) (bs : List ℕ) (fs : List (List ℕ)) → p < 65536 → eqb c 9 ≡ false → all_above (hexes bs ∷ fs) ≡ true → Small bs
    → bytes_on (body c p (hexes bs ∷ fs)) ≡ bs
bytes_on_lem mode c p bs fs h n a s = ap (λ (gs : List (List ℕ)). bytes_of (get_or gs 2 [])) (cuts mode c p (hexes bs ∷ fs) h n a) ∙ bytes_back bs s

-- `D`
pub said_data : (mode : Mode) (p : ℕ) (bs : List ℕ) → p < 65536 → Small bs → 1 ≤ length bs → length bs ≤ 16
    → LineSays mode (code "D") p bs (body (code "D") p (hexes bs ∷ []))
said_data mode p bs h s least most =
    let a : all_above (hexes bs ∷ []) ≡ true = rw (bytes_above bs) in
    said mode (code "D") p (hexes bs ∷ []) h refl a bs
    (ap is_data (further mode (code "D") p (hexes bs ∷ []) h refl a)
    ∙ sym (few 16 (hexes bs) (length bs) (omega (arith, hexes_length bs)) (omega (arith, hexes_length bs)) (λ e. omega arith) most) ∙ bytes_hex bs)
    (bytes_on_lem mode (code "D") p bs [] h refl a s)

-- `I`
same_self : (l : List ℕ) → same l l ≡ true
unfolding same
same_self [] = refl
same_self (b ∷ l) = rw (eq-eqb b b refl) (same_self l)

ended : (fs : List (List ℕ)) → tabbed fs ++ 10 ∷ [] ≡ fields_text fs
unfolding fields_text
ended [] = refl
ended (f ∷ fs) = ap (λ (t : List ℕ). 9 ∷ t) (append_assoc f (tabbed fs) (10 ∷ []) ∙ ap (λ (t : List ℕ). f ++ t) (ended fs))

pub said_code : (mode : Mode) (p : ℕ) (bs name : List ℕ) (fs : List (List ℕ)) → p < 65536 → all_above (hexes bs ∷ name ∷ fs) ≡ true → Small bs
    → line (code "I") (hex4 p ∷ hexes bs ∷ name ∷ fs) ≡ code_line mode p bs
    → LineSays mode (code "I") p bs (body (code "I") p (hexes bs ∷ name ∷ fs))
unfolding is_code
said_code mode p bs name fs h a s e =
    let l : List ℕ = body (code "I") p (hexes bs ∷ name ∷ fs) in
    let b : bytes_on l ≡ bs = bytes_on_lem mode (code "I") p bs (name ∷ fs) h refl a s in
    let q : position_on l ≡ p = position mode (code "I") p (hexes bs ∷ name ∷ fs) h refl a in
    said mode (code "I") p (hexes bs ∷ name ∷ fs) h refl a bs
    (rw (q, b, ← e, ended (hex4 p ∷ hexes bs ∷ name ∷ fs)) (same_self (line (code "I") (hex4 p ∷ hexes bs ∷ name ∷ fs)))) b
