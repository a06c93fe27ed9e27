-- An `I` line is the one that is printed where its bytes are digits, two for each, and what follows them is what is printed after them.
-- Assumes nothing.
use mathlib.Core.Path.{◌≡◌, refl, sym, ap, ap₂, ◌∙◌}
use mathlib.Core.Bool.{Bool, true, false, cond, ◌&&◌}
use mathlib.Core.List.{List, [], ◌∷◌, ◌++◌, append_assoc}
use Prim.Native.Nat.{ℕ, zero, suc, ◌+◌, ◌*◌, ◌/◌, ◌≤◌, ◌<◌}
use Prim.Native.Char.{code}
use native.Mathlib.Omega.{arith}
use borrow.Author.Tests.{eqb-true, eqb-false, eq-eqb, ne_eqb}
use lib.Dec.{eqb, ltb, leb}
use lib.ListN.{length, get_or, take, drop, length-append}
use lib.Seq.{take_all, drop-append-le, drop-drop}
use Rattle.instruction.specs.Answer.{Answer, accepted, refused}
use Rattle.instruction.specs.Decode.{decode_answer}
use Rattle.instruction.specs.Encode.{form_in}
use Rattle.instruction.specs.Forms.{size_of}
use Rattle.instruction.specs.declared.instr.Instr.{Instr}
use Rattle.instruction.specs.declared.mode.Mode.{Mode}
use Rattle.instruction.proofs.Ands.{first_part, second_part}
use Rattle.instruction.proofs.Sign.{never}
use Rattle.targets.specs.Targets.{next_of}
use Rattle.text.specs.Bytes.{bytes_of}
use Rattle.text.specs.Cut.{up_to}
use Rattle.text.specs.Four.{four_of}
use Rattle.text.specs.Hex.{is_digit, all_hex}
use Rattle.text.specs.Same.{same}
use Rattle.text.proofs.Pairs.{bytes_small}
use Rattle.text.proofs.Sames.{same_false}
use Rattle.listing.specs.Hex.{hex1, hex2, hex3, hex4, hexes}
use Rattle.listing.specs.Line.{fields_text}
use Rattle.listing.specs.Lines.{instr_text, code_line}
use Rattle.listing.specs.Rest.{instr_rest, rest_by, code_rest}
use Rattle.listing.proofs.Hexing.{hexes_length}
use Rattle.listing.proofs.Resting.{line_by, by_decode, decoded_size}
use Rattle.read_back.specs.Line.{letter_on, is_code}
use Rattle.read_back.specs.Offsets.{position_at, digits_at, bytes_at, is_start_at}
use Rattle.read_back.proofs.HexBack.{digit_is, bytes_hex, bytes_digits, four_digits}

-- ---- texts compared

same_after : (xs u v : List ℕ) → same (xs ++ u) (xs ++ v) ≡ same u v
unfolding same
same_after [] u v = refl
same_after (x ∷ xs) u v = rw (eq-eqb x x refl) (same_after xs u v)

same_none : (u : List ℕ) → same (u ++ 10 ∷ []) [] ≡ false
unfolding same
same_none [] = refl
same_none (x ∷ u) = refl

no_tab : (b : ℕ) → is_digit b ≡ true → eqb b 9 ≡ false
no_tab b e = ne_eqb b 9 (λ f. never (sym e ∙ ap is_digit f))

-- fewer bytes before a tab
same_fewer : (bs : List ℕ) (k : ℕ) → k < length bs → (u v : List ℕ) → same (hexes bs ++ u) (hexes (take k bs) ++ 9 ∷ v) ≡ false
unfolding same hexes hex2
same_fewer [] k h u v = absurd (omega arith)
same_fewer (b ∷ bs) zero h u v = rw (no_tab (hex1 (b / 16)) (digit_is (b / 16)))
same_fewer (b ∷ bs) (suc k) h u v = rw (eq-eqb (hex1 (b / 16)) (hex1 (b / 16)) refl, eq-eqb (hex1 b) (hex1 b) refl) (same_fewer bs k (omega arith) u v)

-- ---- the line against what decode answers

module _ (mode : Mode) (a b c e : ℕ) (d u : List ℕ) (k : ℕ) (four : all_hex (a ∷ b ∷ c ∷ e ∷ []) ≡ true) (even : length d ≡ k * 2) (hex : all_hex d ≡ true) where
  abbrev p : ℕ
  p = four_of (a ∷ b ∷ c ∷ e ∷ 9 ∷ d ++ u)

  abbrev bytes : List ℕ
  bytes = bytes_of d

  abbrev front : List ℕ
  front = 73 ∷ 9 ∷ a ∷ b ∷ c ∷ e ∷ 9 ∷ []

  shown : (i : Instr) → instr_text mode p i bytes ≡ front ++ (hexes (take (size_of (form_in i)) bytes) ++ instr_rest mode p i)
  unfolding instr_text instr_rest fields_text
  shown i = ap (λ (f : List ℕ). 73 ∷ 9 ∷ f ++ (9 ∷ (hexes (take (size_of (form_in i)) bytes) ++ instr_rest mode p i))) (four_digits a b c e (9 ∷ d ++ u) four)

  rest_begins : (i : Instr) → List ℕ
  rest_begins i = drop 1 (instr_rest mode p i)

  begins : (i : Instr) → instr_rest mode p i ≡ 9 ∷ rest_begins i
  unfolding rest_begins instr_rest fields_text
  begins i = refl

  back : hexes bytes ≡ d
  back = bytes_digits k d even hex

  by_size : (i : Instr) → size_of (form_in i) ≤ length bytes → (t : Bool) → eqb (size_of (form_in i)) (length bytes) ≡ t
      → same (front ++ (d ++ (u ++ 10 ∷ []))) (instr_text mode p i bytes) ≡ same (u ++ 10 ∷ []) (cond t (instr_rest mode p i) [])
  by_size i h true f =
      let z : size_of (form_in i) ≡ length bytes = eqb-true (size_of (form_in i)) (length bytes) f in
      let w : hexes (take (size_of (form_in i)) bytes) ≡ d = ap hexes (take_all (size_of (form_in i)) bytes (omega arith)) ∙ back in
      ap (same (front ++ (d ++ (u ++ 10 ∷ [])))) (shown i ∙ ap (λ (x : List ℕ). front ++ (x ++ instr_rest mode p i)) w)
      ∙ same_after front _ _ ∙ same_after d _ _
  by_size i h false f =
      let z : size_of (form_in i) ≡ length bytes → ⊥ = eqb-false (size_of (form_in i)) (length bytes) f in
      ap (same (front ++ (d ++ (u ++ 10 ∷ [])))) (shown i) ∙ same_after front _ _
      ∙ ap₂ (λ (x y : List ℕ). same (x ++ (u ++ 10 ∷ [])) (hexes (take (size_of (form_in i)) bytes) ++ y)) (sym back) (begins i)
      ∙ same_fewer bytes (size_of (form_in i)) (omega arith) _ _ ∙ sym (same_none u)

  judged : (x : Answer Instr) → ((i : Instr) → x ≡ accepted i → size_of (form_in i) ≤ length bytes)
      → same (front ++ (d ++ (u ++ 10 ∷ []))) (line_by mode p bytes x) ≡ same (u ++ 10 ∷ []) (rest_by mode p (length bytes) x)
  unfolding same
  judged (refused n vs) h = sym (same_none u)
  judged (accepted i) h = by (ltb 65536 (next_of p i)) (eqb (size_of (form_in i)) (length bytes)) refl (h i refl)
    where
      by : (o t : Bool) → eqb (size_of (form_in i)) (length bytes) ≡ t → size_of (form_in i) ≤ length bytes
          → same (front ++ (d ++ (u ++ 10 ∷ []))) (cond o [] (instr_text mode p i bytes)) ≡ same (u ++ 10 ∷ []) (cond t (cond o [] (instr_rest mode p i)) [])
      by true true f g = sym (same_none u)
      by true false f g = sym (same_none u)
      by false t f g = by_size i g t f

  rest_decides : same (front ++ (d ++ (u ++ 10 ∷ []))) (code_line mode p bytes) ≡ same (u ++ 10 ∷ []) (code_rest mode p bytes)
  unfolding code_rest
  rest_decides =
      ap (same (front ++ (d ++ (u ++ 10 ∷ [])))) (sym (by_decode bytes (bytes_small d) mode p))
      ∙ judged (decode_answer bytes) (decoded_size bytes (bytes_small d))

-- ---- what a printed line has for its bytes

up_to_digits : (xs : List ℕ) → all_hex xs ≡ true → (r v : List ℕ) → r ++ 10 ∷ [] ≡ xs ++ 9 ∷ v → up_to 9 r ≡ xs
unfolding up_to all_hex
up_to_digits [] h [] v e = absurd (let z : ◌≡◌ {A = ℕ} 10 9 = ap (λ (l : List ℕ). get_or l 0 0) e in omega arith)
up_to_digits [] h (y ∷ r) v e = rw (eq-eqb y 9 (ap (λ (l : List ℕ). get_or l 0 0) e))
up_to_digits (x ∷ xs) h [] v e = absurd (never (sym (first_part (is_digit x) (all_hex xs) h) ∙ ap is_digit (sym (ap (λ (l : List ℕ). get_or l 0 0) e))))
up_to_digits (x ∷ xs) h (y ∷ r) v e =
    let z : y ≡ x = ap (λ (l : List ℕ). get_or l 0 0) e in
    rw (z, no_tab x (first_part (is_digit x) (all_hex xs) h))
    (ap (λ (l : List ℕ). x ∷ l) (up_to_digits xs (second_part (is_digit x) (all_hex xs) h) r v (ap (drop 1) e)))

-- digits, two for each byte
abbrev pub Digits : List ℕ → Type 0
Digits line = (all_hex (digits_at line) ≡ true) × (length (digits_at line) / 2 * 2 ≡ length (digits_at line))

past_four : (p : ℕ) (v : List ℕ) → drop 7 (73 ∷ 9 ∷ hex4 p ++ (9 ∷ v)) ≡ v
unfolding hex4 hex3 hex2
past_four p v = refl

module _ (line : List ℕ) (h : 7 ≤ length line) where
  digits_of : (bs v : List ℕ) → drop 7 line ++ 10 ∷ [] ≡ hexes bs ++ 9 ∷ v → Digits line
  digits_of bs v f =
      let z : digits_at line ≡ hexes bs = up_to_digits (hexes bs) (bytes_hex bs) (drop 7 line) v f in
      (ap all_hex z ∙ bytes_hex bs, omega (arith, ap length z, hexes_length bs))

  of_instr : (mode : Mode) (p : ℕ) (i : Instr) (bytes : List ℕ) → line ++ 10 ∷ [] ≡ instr_text mode p i bytes → Digits line
  unfolding instr_text fields_text
  of_instr mode p i bytes f = digits_of _ _ (sym (drop-append-le 7 line (10 ∷ []) h) ∙ ap (drop 7) f ∙ past_four p _)

  some : line ++ 10 ∷ [] ≡ [] → ⊥
  some f = omega (arith, ap length f, length-append line (10 ∷ []))

  of_answer : (mode : Mode) (p : ℕ) (bytes : List ℕ) (x : Answer Instr) → line ++ 10 ∷ [] ≡ line_by mode p bytes x → Digits line
  of_answer mode p bytes (refused n vs) f = absurd (some f)
  of_answer mode p bytes (accepted i) f = by (ltb 65536 (next_of p i)) f
    where
      by : (o : Bool) → line ++ 10 ∷ [] ≡ cond o [] (instr_text mode p i bytes) → Digits line
      by true f = absurd (some f)
      by false f = of_instr mode p i bytes f

  -- a line with anything else is not printed
  pub unprinted : (mode : Mode) (p : ℕ) → (Digits line → ⊥) → false ≡ is_code mode p (bytes_at line) line
  unfolding is_code
  unprinted mode p n = sym (same_false (line ++ 10 ∷ []) (code_line mode p (bytes_at line))
      (λ e. n (of_answer mode p (bytes_at line) (decode_answer (bytes_at line)) (e ∙ sym (by_decode (bytes_at line) (bytes_small (digits_at line)) mode p)))))

-- ---- the whole line

split : (t : List ℕ) → up_to 9 t ++ drop (length (up_to 9 t)) t ≡ t
unfolding up_to
split [] = refl
split (b ∷ t) = by (split t) (eqb b 9)
  where
    by : up_to 9 t ++ drop (length (up_to 9 t)) t ≡ t → (x : Bool) → cond x [] (b ∷ up_to 9 t) ++ drop (length (cond x [] (b ∷ up_to 9 t))) (b ∷ t) ≡ b ∷ t
    by e true = refl
    by e false = ap (λ (l : List ℕ). b ∷ l) e

-- what follows the digits decides
pub by_rest : (mode : Mode) (line : List ℕ) (p : ℕ) → is_start_at line ≡ true → p ≡ position_at line → letter_on line ≡ code "I" → 7 ≤ length line
    → get_or line 6 0 ≡ 9 → Digits line
    → same (drop (7 + length (digits_at line)) line ++ 10 ∷ []) (code_rest mode p (bytes_at line)) ≡ is_code mode p (bytes_at line) line
unfolding is_code is_start_at four_of
by_rest mode (c0 ∷ t ∷ a ∷ b ∷ c ∷ e ∷ x ∷ r) p s q i h y d =
    let f = second_part (leb 6 (length (c0 ∷ t ∷ a ∷ b ∷ c ∷ e ∷ x ∷ r))) (eqb t 9 && all_hex (a ∷ b ∷ c ∷ e ∷ [])) s in
    let u : List ℕ = drop (length (up_to 9 r)) r in
    let z : c0 ∷ t ∷ a ∷ b ∷ c ∷ e ∷ x ∷ r ++ 10 ∷ [] ≡ 73 ∷ 9 ∷ a ∷ b ∷ c ∷ e ∷ 9 ∷ up_to 9 r ++ (u ++ 10 ∷ [])
    = rw (i, eqb-true t 9 (first_part (eqb t 9) (all_hex (a ∷ b ∷ c ∷ e ∷ [])) f), y)
    (ap (λ (l : List ℕ). 73 ∷ 9 ∷ a ∷ b ∷ c ∷ e ∷ 9 ∷ l) (ap (λ (l : List ℕ). l ++ 10 ∷ []) (sym (split r)) ∙ append_assoc (up_to 9 r) u (10 ∷ []))) in
    ap₂ (λ (l : List ℕ) (k : ℕ). same (l ++ 10 ∷ []) (code_rest mode k (bytes_of (up_to 9 r))))
    (sym (drop-drop (length (up_to 9 r)) 7 (c0 ∷ t ∷ a ∷ b ∷ c ∷ e ∷ x ∷ r))) q
    ∙ sym (rest_decides mode a b c e (up_to 9 r) u (length (up_to 9 r) / 2) (second_part (eqb t 9) (all_hex (a ∷ b ∷ c ∷ e ∷ [])) f) (sym d.1) d.0)
    ∙ ap₂ (λ (l : List ℕ) (k : ℕ). same l (code_line mode k (bytes_of (up_to 9 r)))) (sym z) (sym q)
by_rest mode [] p s q i h y d = absurd (omega arith)
by_rest mode (a ∷ []) p s q i h y d = absurd (omega arith)
by_rest mode (a ∷ b ∷ []) p s q i h y d = absurd (omega arith)
by_rest mode (a ∷ b ∷ c ∷ []) p s q i h y d = absurd (omega arith)
by_rest mode (a ∷ b ∷ c ∷ e ∷ []) p s q i h y d = absurd (omega arith)
by_rest mode (a ∷ b ∷ c ∷ e ∷ f ∷ []) p s q i h y d = absurd (omega arith)
by_rest mode (a ∷ b ∷ c ∷ e ∷ f ∷ g ∷ []) p s q i h y d = absurd (omega arith)
