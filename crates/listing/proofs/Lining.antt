-- The lines: what is left out, what is shown, and how long the parts are.
-- Assumes nothing.
use mathlib.Core.Path.{◌≡◌, refl, sym, ap, ◌∙◌}
use mathlib.Core.Bool.{Bool, true, false, cond}
use mathlib.Core.List.{List, [], ◌∷◌, ◌++◌, map}
use Prim.Native.Nat.{ℕ, ◌+◌, ◌≤◌}
use Prim.Native.Char.{code}
use native.Mathlib.Omega.{arith}
use borrow.Author.Tests.{eq-eqb, ne_eqb, le-ltb}
use lib.Dec.{eqb}
use lib.ListN.{length, take, length-append}
use Rattle.instruction.specs.Encode.{form_in}
use Rattle.instruction.specs.Forms.{size_of}
use Rattle.instruction.specs.Mnemonic.{mnemonic_of}
use Rattle.instruction.specs.Parts.{parts_of}
use Rattle.instruction.specs.declared.instr.Instr.{Instr}
use Rattle.instruction.specs.declared.mode.Mode.{Mode}
use Rattle.std.specs.Prelude.{Ok}
use Rattle.targets.specs.Here.{here_of}
use Rattle.targets.specs.Targets.{next_of, targets_answer}
use Rattle.views.specs.Overlaps.{overlaps_in}
use Rattle.views.specs.declared.overlaps.Overlaps.{Overlaps}
use Rattle.views.specs.declared.overlaps.Overlaps.TheVariants.{Nothing, One, Two, Three}
use Rattle.listing.specs.Hex.{hex4, hexes}
use Rattle.listing.specs.Line.{fields_text}
use Rattle.listing.specs.Lines.{label_line, found_line, overlap_line, arrival_line, instr_text, code_by, code_line, all_zero, data_line}
use Rattle.listing.specs.Operand.{first_of, operands_by}
use Rattle.text.specs.Puts.{Puts, letters}
use Rattle.listing.proofs.Hexing.{hex4_length, hexes_length}
use Rattle.listing.proofs.Lettering.{letters_length}
use Rattle.text.proofs.Putting.{puts_most}

-- ---- the parts of a line

-- its letter and position
abbrev pub begin : ℕ → ℕ → List ℕ
begin letter p = letter ∷ 9 ∷ hex4 p

begin_length : (letter p : ℕ) → length (begin letter p) ≤ 6
begin_length letter p = omega (arith, hex4_length p)

place_length : (p : ℕ) → length (9 ∷ hex4 p) ≤ 5
place_length p = omega (arith, hex4_length p)

bytes_length : (bs : List ℕ) → length bs ≤ 65536 → length (9 ∷ hexes bs) ≤ 131073
bytes_length bs h = omega (arith, hexes_length bs)

word_length : (w : ℕ) → length (9 ∷ letters 8 w) ≤ 9
word_length w = omega (arith, letters_length 8 w)

pub puts_begin : {l at r : ℕ} {o m : List ℕ} (p : ℕ) → Puts (l ∷ 9 ∷ hex4 p) at o m r → r ≤ at + 6
puts_begin {l} p f = puts_most f (begin_length l p)

pub puts_place : {at r : ℕ} {o m : List ℕ} (p : ℕ) → Puts (9 ∷ hex4 p) at o m r → r ≤ at + 5
puts_place p f = puts_most f (place_length p)

pub puts_bytes : {at r : ℕ} {o m : List ℕ} (bs : List ℕ) → Puts (9 ∷ hexes bs) at o m r → length bs ≤ 65536 → r ≤ at + 131073
puts_bytes bs f h = puts_most f (bytes_length bs h)

pub puts_word : {at r : ℕ} {o m : List ℕ} (w : ℕ) → Puts (9 ∷ letters 8 w) at o m r → r ≤ at + 9
puts_word w f = puts_most f (word_length w)

-- ---- `L`

pub no_label : (mark p : ℕ) → mark ≡ 0 → [] ≡ cond (eqb mark 0) [] (label_line p)
no_label mark p e = rw (eq-eqb mark 0 e)

pub label : (mark p : ℕ) → (mark ≡ 0 → ⊥) → begin (code "L") p ++ (10 ∷ []) ≡ cond (eqb mark 0) [] (label_line p)
unfolding label_line fields_text
label mark p e = rw (ne_eqb mark 0 e)

pub label_length : (mark p : ℕ) → length (cond (eqb mark 0) [] (label_line p)) ≤ 7
unfolding label_line fields_text
label_length mark p = by (eqb mark 0)
  where
    by : (b : Bool) → length (cond b [] (begin (code "L") p ++ (10 ∷ []))) ≤ 7
    by true = omega arith
    by false = omega (arith, hex4_length p, length-append (hex4 p) (10 ∷ []))

-- ---- `O`

module _ (p : ℕ) (o : Overlaps) (qs : List ℕ) (e : overlaps_in o ≡ qs) (n : ℕ) (f : n ≡ length (overlaps_in o)) where
  pub no_overlaps : n ≡ 0 → [] ≡ overlap_line p qs
  unfolding overlap_line
  no_overlaps z = by (overlaps_in o) (sym f ∙ z) ∙ ap (found_line (code "O") p) e
    where
      by : (l : List ℕ) → length l ≡ 0 → [] ≡ found_line (code "O") p l
      by [] h = refl
      by (q ∷ l) h = absurd (omega arith)

  pub overlaps : (n ≡ 0 → ⊥) → begin (code "O") p ++ fields_text (map hex4 (overlaps_in o)) ≡ overlap_line p qs
  unfolding overlap_line fields_text
  overlaps z = by (overlaps_in o) (λ h. z (f ∙ h)) ∙ ap (found_line (code "O") p) e
    where
      by : (l : List ℕ) → (length l ≡ 0 → ⊥) → begin (code "O") p ++ fields_text (map hex4 l) ≡ found_line (code "O") p l
      by [] h = absurd (h refl)
      by (q ∷ l) h = refl

one_length : (a : ℕ) (l : List (List ℕ)) (n : ℕ) → length (fields_text l) ≤ n → length (fields_text (hex4 a ∷ l)) ≤ 5 + n
unfolding fields_text
one_length a l n h = omega (arith, hex4_length a, length-append (hex4 a) (fields_text l))

none_length : length (fields_text []) ≤ 1
unfolding fields_text
none_length = omega arith

pub found_length : (o : Overlaps) → length (fields_text (map hex4 (overlaps_in o))) ≤ 16
found_length Nothing = omega (arith, none_length)
found_length (One a) = omega (arith, one_length a [] 1 none_length)
found_length (Two a b) = one_length a _ 11 (omega (arith, one_length b [] 1 none_length))
found_length (Three a b c) = one_length a _ 11 (one_length b _ 6 (one_length c [] 1 none_length))

-- ---- `A`

module _ (p : ℕ) (qs : List ℕ) where
  pub no_arrivals : qs ≡ [] → [] ≡ arrival_line p qs
  unfolding arrival_line
  no_arrivals f = rw f

  pub arrivals : (q : ℕ) (l : List ℕ) → qs ≡ q ∷ l → begin (code "A") p ++ fields_text (map hex4 qs) ≡ arrival_line p qs
  unfolding arrival_line fields_text
  arrivals q l f = rw f

-- ---- `I`

module _ (mode : Mode) (all : List ℕ) (p : ℕ) (i : Instr) where
  pub instr : (rest : List ℕ) → rest ≡ fields_text (operands_by (first_of (targets_answer mode p i)) i) → (w : ℕ) → letters 8 w ≡ mnemonic_of (parts_of i).form
      → (bytes : List ℕ) → bytes ≡ take (size_of (form_in i)) all
      → begin (code "I") p ++ ((9 ∷ hexes bytes) ++ ((9 ∷ letters 8 w) ++ rest)) ≡ instr_text mode p i all
  unfolding instr_text fields_text
  instr rest e w f bytes g = rw (e, f, g)

-- by itself
pub code_here : (mode : Mode) (p : ℕ) (bytes : List ℕ) (i : Instr) → Ok i ≡ here_of bytes 0 → next_of p i ≤ 65536
    → instr_text mode p i bytes ≡ code_line mode p bytes
unfolding code_line
code_here mode p bytes i e h = ap (λ (b : Bool). cond b [] (instr_text mode p i bytes)) (sym (le-ltb 65536 (next_of p i) h)) ∙ ap (code_by mode p bytes) e

-- ---- `D`

module _ (p : ℕ) (bytes : List ℕ) (z : Bool) (e : z ≡ all_zero bytes) where
  pub no_data : z ≡ true → [] ≡ data_line p bytes
  unfolding data_line
  no_data f = rw (← e, f)

  pub data_shown : z ≡ false → begin (code "D") p ++ ((9 ∷ hexes bytes) ++ (10 ∷ [])) ≡ data_line p bytes
  unfolding data_line fields_text
  data_shown f = rw (← e, f)
