-- A line by the places of its bytes and by its fields: the same lines are good, and a good one says the same.
-- Assumes nothing.
use mathlib.Core.Path.{◌≡◌, refl, sym, ap, ap₂, subst, ◌∙◌}
use mathlib.Core.Bool.{Bool, true, false, cond, ◌&&◌}
use mathlib.Core.List.{List, [], ◌∷◌, ◌++◌}
use Prim.Native.Nat.{ℕ, ◌/◌}
use Prim.Native.Char.{code}
use native.Mathlib.Omega.{arith}
use borrow.Author.Tests.{le-leb}
use lib.Dec.{eqb}
use lib.ListN.{length, get_or, drop, length-append}
use Rattle.instruction.proofs.Ands.{second_part}
use Rattle.instruction.proofs.Sign.{never}
use Rattle.instruction.specs.declared.mode.Mode.{Mode}
use Rattle.text.specs.Bytes.{bytes_of}
use Rattle.text.specs.Cut.{fields}
use Rattle.text.specs.Four.{is_four, all_four, four_of}
use Rattle.text.specs.Hex.{all_hex}
use Rattle.text.proofs.Pairs.{bytes_parts}
use Rattle.read_back.specs.Line.{field_on, letter_on, position_on, bytes_on, further_on, is_start, is_label, is_found, is_data, is_code, by_letter, is_line, has_bytes}
use Rattle.read_back.specs.Line.{record_of}
use Rattle.read_back.specs.Offsets.{position_at, digits_at, bytes_at, is_start_at, by_letter_at, is_line_at, record_at, Spaced}
use Rattle.read_back.proofs.Pieces.{tabbed, NoTab, NoTabs, fields_are, Fielded, fielded, fielded_of}
use Rattle.read_back.proofs.Rests.{label_is, found_is, fives, data_is, digits_are}
use Rattle.read_back.proofs.Shapes.{starts, Shape, lined, other, shape}

-- what each letter asks
alike : (c : ℕ) (u u' v v' w w' z z' : Bool) → u ≡ u' → v ≡ v' → w ≡ w' → z ≡ z'
    → cond (eqb c (code "L")) u (cond (eqb c (code "O")) v (cond (eqb c (code "A")) v (cond (eqb c (code "I")) w (cond (eqb c (code "D")) z false))))
    ≡ cond (eqb c (code "L")) u' (cond (eqb c (code "O")) v' (cond (eqb c (code "A")) v' (cond (eqb c (code "I")) w' (cond (eqb c (code "D")) z' false))))
alike c u u' v v' w w' z z' p q r s = rw (p, q, r, s)

-- a letter, a position and further fields
module _ (mode : Mode) (c a b d e : ℕ) (gs : List (List ℕ)) (n : NoTab (c ∷ [])) (ns : NoTabs ((a ∷ b ∷ d ∷ e ∷ []) ∷ gs)) where
  abbrev line : List ℕ
  line = c ∷ 9 ∷ a ∷ b ∷ d ∷ e ∷ tabbed gs

  cuts : fields line ≡ (c ∷ []) ∷ (a ∷ b ∷ d ∷ e ∷ []) ∷ gs
  cuts = fields_are c [] ((a ∷ b ∷ d ∷ e ∷ []) ∷ gs) n ns

  further : further_on line ≡ gs
  further = ap (λ (fs : List (List ℕ)). drop 2 fs) cuts

  position_is : position_at line ≡ position_on line
  unfolding four_of
  position_is = sym (ap (λ (fs : List (List ℕ)). four_of (get_or fs 1 [])) cuts)

  digits_is : digits_at line ≡ field_on 2 line
  digits_is = digits_are gs ns.1 ∙ sym (ap (λ (fs : List (List ℕ)). get_or fs 2 []) cuts)

  started : is_start_at line ≡ is_start line
  unfolding is_start_at is_start is_four
  started = ap (λ (t : Bool). t && all_hex (a ∷ b ∷ d ∷ e ∷ [])) (le-leb 6 (length line) (omega arith)) ∙ sym (ap starts cuts)

  lettered : by_letter_at mode c line ≡ by_letter mode c line
  lettered =
      alike c _ _ _ _ _ _ _ _ (label_is gs ∙ sym (ap is_label further)) (found_is gs ns.1 ∙ sym (ap is_found further))
      (ap₂ (λ (p : ℕ) (bs : List ℕ). is_code mode p bs line) position_is (ap bytes_of digits_is)) (data_is gs ∙ sym (ap is_data further))

  agreed : is_line_at mode line ≡ is_line mode line
  unfolding is_line_at is_line
  agreed = ap₂ (λ (x y : Bool). x && y) started lettered

  -- positions, where there are no bytes
  all_four_lem : (l o r i t u v : Bool) → cond l (is_label gs) (cond o (is_found gs) (cond r (is_found gs) (cond i u (cond t v false)))) ≡ true → cond i true t ≡ false
      → all_four gs ≡ true
  unfolding all_four
  all_four_lem l o r i t u v q k = by gs l o r i t q k
    where
      label : (hs : List (List ℕ)) → is_label hs ≡ true → all_four hs ≡ true
      label [] q = refl
      label (h ∷ hs) q = absurd (never (sym q))

      found : (hs : List (List ℕ)) → is_found hs ≡ true → all_four hs ≡ true
      found [] q = absurd (never (sym q))
      found (h ∷ hs) q = q

      by : (hs : List (List ℕ)) (l o r i t : Bool) → cond l (is_label hs) (cond o (is_found hs) (cond r (is_found hs) (cond i u (cond t v false)))) ≡ true
          → cond i true t ≡ false → all_four hs ≡ true
      by hs true o r i t q k = label hs q
      by hs false true r i t q k = found hs q
      by hs false false true i t q k = found hs q
      by hs false false false true t q k = absurd (never k)
      by hs false false false false true q k = absurd (never k)
      by hs false false false false false q k = absurd (never (sym q))

  counted : is_line mode line ≡ true → has_bytes c ≡ false → length (drop 6 line) / 5 ≡ length (further_on line)
  unfolding is_line
  counted g h =
      let q = ap (λ (fs : List (List ℕ)). cond (eqb c (code "L")) (is_label fs)
      (cond (eqb c (code "O")) (is_found fs)
      (cond (eqb c (code "A")) (is_found fs)
      (cond (eqb c (code "I")) (is_code mode (position_on line) (bytes_on line) line) (cond (eqb c (code "D")) (is_data fs) false))))) further in
      let k = all_four_lem (eqb c (code "L")) (eqb c (code "O")) (eqb c (code "A")) (eqb c (code "I")) (eqb c (code "D")) _ _
      (sym q ∙ second_part (is_start line) (by_letter mode c line) g) h in
      omega (arith, fives gs k, ap length further)

  -- a field of bytes alone, in `D`
  even : is_data gs ≡ true → length (tabbed gs) / 2 ≡ length (bytes_of (get_or gs 0 []))
  even q = by gs q
    where
      by : (hs : List (List ℕ)) → is_data hs ≡ true → length (tabbed hs) / 2 ≡ length (bytes_of (get_or hs 0 []))
      by [] q = absurd (never (sym q))
      by (h ∷ []) q = omega (arith, length-append h [], (bytes_parts 16 h q).0)
      by (h ∷ k ∷ hs) q = absurd (never (sym q))

  paired : is_line mode line ≡ true → c ≡ code "D" → length (drop 6 line) / 2 ≡ length (bytes_on line)
  unfolding is_line
  paired g h =
      let q : by_letter mode (code "D") line ≡ true = subst (λ (x : ℕ). by_letter mode x line ≡ true) h (second_part (is_start line) (by_letter mode c line) g) in
      even (sym (ap is_data further) ∙ q) ∙ sym (ap (λ (fs : List (List ℕ)). length (bytes_of (get_or fs 2 []))) cuts)

-- ---- every line

pub line_is : (mode : Mode) (line : List ℕ) → is_line_at mode line ≡ is_line mode line
line_is mode line = by (fielded_of line)
  where
    is : {f : List ℕ} {fs : List (List ℕ)} → Shape mode f fs → NoTab f → NoTabs fs → is_line_at mode (f ++ tabbed fs) ≡ is_line mode (f ++ tabbed fs)
    is (lined c a b d e gs) n ns = agreed mode c a b d e gs n ns
    is (other p q) n ns = q ∙ sym p

    by : Fielded line → is_line_at mode line ≡ is_line mode line
    by (fielded f fs w n ns) = subst (λ (l : List ℕ). is_line_at mode l ≡ is_line mode l) (sym w) (is (shape mode f fs n ns) n ns)

-- in a good line the fields stand at these places
pub good_line : (mode : Mode) (line : List ℕ) → is_line mode line ≡ true → Spaced line
good_line mode line g = by (fielded_of line)
  where
    is : {f : List ℕ} {fs : List (List ℕ)} → Shape mode f fs → NoTab f → NoTabs fs → is_line mode (f ++ tabbed fs) ≡ true → Spaced (f ++ tabbed fs)
    is (lined c a b d e gs) n ns g = record {
      long = omega arith;
      position = position_is mode c a b d e gs n ns;
      digits = digits_is mode c a b d e gs n ns;
      halves = paired mode c a b d e gs n ns g;
      count = counted mode c a b d e gs n ns g;
    }
    is (other p q) n ns g = absurd (never (sym g ∙ p))

    by : Fielded line → Spaced line
    by (fielded f fs w n ns) = subst Spaced (sym w) (is (shape mode f fs n ns) n ns (subst (λ (l : List ℕ). is_line mode l ≡ true) w g))

pub record_is : (line : List ℕ) → Spaced line → record_at line ≡ record_of line
unfolding record_at record_of
record_is line g = ap₂ (λ (p k : ℕ). record { letter = letter_on line; position = p; count = k }) g.position (by (has_bytes (letter_on line)) refl)
  where
    by : (b : Bool) → has_bytes (letter_on line) ≡ b
        → cond b (length (bytes_at line)) (length (drop 6 line) / 5) ≡ cond b (length (bytes_on line)) (length (further_on line))
    by true e = ap (λ (ds : List ℕ). length (bytes_of ds)) g.digits
    by false e = g.count e
