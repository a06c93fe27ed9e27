-- A line over what the lines before it gave: its bytes compared and listed one by one.
-- Assumes nothing.
use mathlib.Core.Path.{◌≡◌, refl, sym, ap, ◌∙◌}
use mathlib.Core.Bool.{Bool, true, false, cond, ◌&&◌}
use mathlib.Core.List.{List, [], ◌∷◌}
use mathlib.Core.Logic.{◌⊎◌, inl, inr}
use Prim.Native.Nat.{ℕ, suc, ◌+◌, ◌-◌, ◌*◌, ◌/◌, ◌≤◌, ◌<◌, min, max}
use native.Mathlib.Omega.{arith}
use borrow.Author.Tests.{eq-eqb, ne_eqb, le-leb, lt-leb, lt-ltb, le-ltb}
use lib.Dec.{eqb}
use lib.ListN.{length, get_or, take, drop, length-drop}
use lib.Seq.{take-take, get_or-take, get_or-drop, drop-drop, length-take-le}
use Rattle.reach.proofs.Cases.{lt_or_le}
use Rattle.text.specs.Bytes.{bytes_of}
use Rattle.text.specs.Hex.{digit_of}
use Rattle.text.proofs.Cuts.{take_first}
use Rattle.read_back.specs.Line.{field_on, letter_on, position_on, bytes_on, further_on, has_bytes, record_of}
use Rattle.read_back.specs.Offsets.{digits_at, bytes_at, Spaced}
use Rattle.read_back.specs.Sheet.{listed_on}
use Rattle.read_back.specs.Turn.{agree_to, far_of, later_of}
use Rattle.read_back.specs.declared.place.Record.{Record}
use Rattle.read_back.proofs.Codes.{digits_inside}
use Rattle.read_back.proofs.Lines.{four_small}

-- past the end nothing was listed
agree_past : (end : ℕ) (image : List ℕ) (n : ℕ) (bs : List ℕ) → end ≤ n → agree_to end image n bs ≡ true
unfolding agree_to
agree_past end image n [] h = refl
agree_past end image n (b ∷ bs) h = rw (le-leb end n h) (agree_past end image (suc n) bs (omega arith))

-- a pair of digits, and what follows it
pair_of : (l : List ℕ) → 2 ≤ length l
    → bytes_of l ≡ (digit_of (get_or (take 2 l) 0 0) * 16 + digit_of (get_or (take 2 l) 1 0)) ∷ bytes_of (drop 2 l)
unfolding bytes_of
pair_of [] h = absurd (omega arith)
pair_of (a ∷ []) h = absurd (omega arith)
pair_of (a ∷ b ∷ l) h = refl

no_pair : (l : List ℕ) → length l < 2 → bytes_of l ≡ []
unfolding bytes_of
no_pair [] h = refl
no_pair (a ∷ []) h = refl
no_pair (a ∷ b ∷ l) h = absurd (omega arith)

-- what remains to be compared with what was listed from p on, where k bytes were
module _ (digits image : List ℕ) (p end from : ℕ) (s : from ≡ min p end) (w : end ≤ length image) (k : ℕ)
    (c : agree_to end image p (bytes_of digits) ≡ agree_to end image (p + k) (bytes_of (drop (k * 2) digits))) where
  abbrev known : List ℕ
  known = take (end - from) (drop from image)

  long : length known ≡ end - from
  long = length-take-le (end - from) (drop from image) (omega (arith, length-drop from image))

  pub compare_end : (n : ℕ) → n ≡ length digits / 2 → k ≡ min n (length known) → true ≡ agree_to end image p (bytes_of digits)
  unfolding agree_to
  compare_end n f e = by (lt_or_le (p + k) end)
    where
      by : ((p + k) < end) ⊎ (end ≤ (p + k)) → true ≡ agree_to end image p (bytes_of digits)
      by (inl h) = sym (c ∙ ap (agree_to end image (p + k)) (no_pair (drop (k * 2) digits) (omega (arith, length-drop (k * 2) digits, long))))
      by (inr h) = sym (c ∙ agree_past end image (p + k) (bytes_of (drop (k * 2) digits)) h)

  module _ (h : k < length digits / 2) (l : k < length known) (pair : List ℕ) (f : pair ≡ take 2 (drop (k * 2) digits)) (x : ℕ)
      (e : x ≡ digit_of (get_or pair 0 0) * 16 + digit_of (get_or pair 1 0)) (b : ℕ) (g : b ≡ get_or known k 0) where
    byte : get_or image (p + k) 0 ≡ b
    byte =
        sym (g ∙ get_or-take (end - from) (drop from image) k 0 (omega (arith, long)) ∙ get_or-drop from image k 0
        ∙ ap (λ (j : ℕ). get_or image j 0) (let z : from + k ≡ p + k = omega (arith, long) in z))

    pairing : bytes_of (drop (k * 2) digits) ≡ x ∷ bytes_of (drop ((k + 1) * 2) digits)
    pairing =
        pair_of (drop (k * 2) digits) (omega (arith, length-drop (k * 2) digits))
        ∙ rw (← f, ← e, drop-drop 2 (k * 2) digits) (ap (λ (j : ℕ). x ∷ bytes_of (drop j digits)) (let v : k * 2 + 2 ≡ (k + 1) * 2 = omega arith in v))

    one : agree_to end image (p + k) (bytes_of (drop (k * 2) digits)) ≡ (eqb b x && agree_to end image (p + (k + 1)) (bytes_of (drop ((k + 1) * 2) digits)))
    unfolding agree_to
    one =
        ap (agree_to end image (p + k)) pairing
        ∙ rw (lt-leb end (p + k) (let z : p + k < end = omega (arith, long) in z), byte)
        (ap (λ (j : ℕ). eqb b x && agree_to end image j (bytes_of (drop ((k + 1) * 2) digits))) (let u : suc (p + k) ≡ p + (k + 1) = omega arith in u))

    pub compare_off : (b ≡ x → ⊥) → false ≡ agree_to end image p (bytes_of digits)
    compare_off n = sym (c ∙ one ∙ rw (ne_eqb b x n))

    pub compare_on : b ≡ x → agree_to end image p (bytes_of digits) ≡ agree_to end image (p + (k + 1)) (bytes_of (drop ((k + 1) * 2) digits))
    compare_on n = c ∙ one ∙ rw (eq-eqb b x n)

-- two digits for each byte
whole_most : (d : List ℕ) → length (bytes_of d) * 2 ≤ length d
unfolding bytes_of
whole_most [] = omega arith
whole_most (a ∷ []) = omega arith
whole_most (a ∷ b ∷ d) = omega (arith, whole_most d)

whole_pairs : (d : List ℕ) → bytes_of (take (length (bytes_of d) * 2) d) ≡ bytes_of d
unfolding bytes_of
whole_pairs [] = refl
whole_pairs (a ∷ []) = refl
whole_pairs (a ∷ b ∷ d) =
    let k : suc (length (bytes_of d)) * 2 ≡ suc (suc (length (bytes_of d) * 2)) = omega arith in
    ap (λ (n : ℕ). bytes_of (take n (a ∷ b ∷ d))) k ∙ ap (λ (l : List ℕ). (digit_of a * 16 + digit_of b) ∷ l) (whole_pairs d)

-- a line with this record
module _ (line : List ℕ) (r : Record) (e : r ≡ record_of line) where
  pub letter_is : r.letter ≡ letter_on line
  unfolding record_of
  letter_is = ap (λ (x : Record). x.letter) e

  pub position_is : r.position ≡ position_on line
  unfolding record_of
  position_is = ap (λ (x : Record). x.position) e

  module _ (b : Bool) (f : b ≡ has_bytes r.letter) where
    has : b ≡ has_bytes (letter_on line)
    has = f ∙ ap has_bytes letter_is

    pub none_listed : b ≡ false → [] ≡ listed_on line
    none_listed g = rw (← has, g)

    module _ (g : b ≡ true) (l : Spaced line) where
      counted : r.count ≡ length (bytes_at line)
      unfolding record_of
      counted = ap (λ (x : Record). x.count) e ∙ ap (λ (x : Bool). cond x (length (bytes_on line)) (length (further_on line))) (sym has ∙ g)
          ∙ ap (λ (x : List ℕ). length (bytes_of x)) (sym l.digits)

      shown : listed_on line ≡ bytes_at line
      shown = sym (ap bytes_of l.digits ∙ rw (← has, g))

      pub count_none : r.count ≡ 0 → [] ≡ listed_on line
      count_none z = empty (bytes_at line) (sym counted ∙ z) ∙ sym shown
        where
          empty : (bs : List ℕ) → length bs ≡ 0 → [] ≡ bs
          empty [] h = refl
          empty (b ∷ bs) h = absurd (omega arith)

      -- where there is a byte, its digits lie in the line
      pub count_inside : (r.count ≡ 0 → ⊥) → 7 + r.count * 2 ≤ length line
      count_inside z = omega (arith, counted, whole_most (digits_at line), digits_inside line, length-drop 7 line, z)

      pub bytes_listed : bytes_of (take (7 + r.count * 2 - 7) (drop 7 line)) ≡ listed_on line
      bytes_listed =
          let d : List ℕ = digits_at line in
          let k : 7 + r.count * 2 - 7 ≡ length (bytes_of d) * 2 = omega (arith, counted) in
          ap (λ (n : ℕ). bytes_of (take n (drop 7 line))) k
          ∙ ap bytes_of (sym (take-take (length (bytes_of d) * 2) (length d) (drop 7 line) (whole_most d))
          ∙ ap (take (length (bytes_of d) * 2)) (take_first 9 (drop 7 line)))
          ∙ whole_pairs d ∙ sym shown

-- a position lies in memory
pub position_small : (line : List ℕ) → (record_of line).position < 65536
unfolding record_of
position_small line = four_small (field_on 1 line)

-- how far bytes reach
pub far_none : (p : ℕ) (bs : List ℕ) → length bs ≡ 0 → 0 ≡ far_of p bs
far_none p [] h = refl
far_none p (b ∷ bs) h = absurd (omega arith)

pub far_some : (p k : ℕ) (bs : List ℕ) → length bs ≡ k → (k ≡ 0 → ⊥) → p + k ≡ far_of p bs
far_some p k [] h z = absurd (z (sym h))
far_some p k (b ∷ bs) h z = ap (λ (x : ℕ). p + x) (sym h)

-- the later of two ends
pub max_later : (a b : ℕ) → max a b ≡ later_of a b
max_later a b = by (lt_or_le a b)
  where
    by : (a < b) ⊎ (b ≤ a) → max a b ≡ later_of a b
    by (inl h) = rw (lt-ltb a b h) (omega arith)
    by (inr h) = rw (le-ltb a b h) (omega arith)
