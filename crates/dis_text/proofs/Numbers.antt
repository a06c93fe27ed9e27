-- A word read digit by digit.
-- Assumes nothing.
use mathlib.Core.Path.{◌≡◌, refl, sym, ap, ◌∙◌}
use mathlib.Core.Logic.{◌⊎◌, inl, inr}
use mathlib.Core.Bool.{true, false, cond, ◌&&◌}
use mathlib.Core.List.{List, [], ◌∷◌}
use Prim.Native.Nat.{ℕ, zero, suc, ◌+◌, ◌*◌, ◌-◌, ◌≤◌, ◌<◌}
use native.Mathlib.Numerals.{add-one}
use native.Mathlib.Omega.{arith}
use borrow.Author.Tests.{ltb-true, lt-ltb, le-ltb, le-leb, lt-leb, leb-true, leb-false}
use lib.Dec.{leb, ltb}
use lib.ListN.{length, get_or, drop, drop_of_length-le}
use lib.Seq.{drop-cons}
use Rattle.std.specs.Prelude.{Option, Some, None}
use Rattle.instruction.proofs.Ands.{first_part, second_part, not_second}
use Rattle.text.specs.Hex.{within, value_of}
use Rattle.dis_text.specs.Word.{value_in, all_digits, number_from, is_number, number_in}

-- a byte from low to high, below, and above
inside : (low high b : ℕ) → low ≤ b → b ≤ high → within low high b ≡ true
inside low high b h k = rw (le-leb low b h, le-leb b high k)

under : (low high b : ℕ) → b < low → within low high b ≡ false
under low high b h = rw (lt-leb low b h)

over : (low high b : ℕ) → high < b → within low high b ≡ false
over low high b h = rw (lt-leb b high h) (not_second (leb low b) false refl)

-- the value of a byte that is a lower-case digit, and of one that is none
module _ (b : ℕ) where
  pub lower_value : 97 ≤ b → leb b 102 ≡ true → b - 87 ≡ value_in b
  lower_value h e = rw (inside 97 102 b h (leb-true b 102 e)) refl

  pub other_value : (v : ℕ) → v ≡ value_of b → (leb b 102 ≡ false) ⊎ (b < 97) → v ≡ value_in b
  other_value v e (inl f) = e ∙ rw (over 97 102 b (leb-false b 102 f)) refl
  other_value v e (inr h) = e ∙ rw (under 97 102 b h) refl

-- so many digits stand for less
abbrev pub most : ℕ → ℕ
most zero = 1
most (suc i) = most i * 16

pub four_digits : (i : ℕ) → i ≤ 4 → most i ≤ 65536
four_digits zero h = omega arith
four_digits (suc zero) h = omega arith
four_digits (suc (suc zero)) h = omega arith
four_digits (suc (suc (suc zero))) h = omega arith
four_digits (suc (suc (suc (suc zero)))) h = omega arith
four_digits (suc (suc (suc (suc (suc i))))) h = absurd (omega arith)

pub one_more_lem : (i n d : ℕ) → n < most i → d < 16 → n * 16 + d < most (suc i)
one_more_lem i n d h k = omega arith

-- digits after i others, which stand for n
pub number_below : (w : List ℕ) (i n : ℕ) → n < most i → all_digits w ≡ true → number_from n w < most (i + length w)
unfolding all_digits number_from
number_below [] i n h e = let z : i + 0 ≡ i = omega arith in rw z h
number_below (b ∷ w) i n h e =
    let d = ltb-true (value_in b) 16 (first_part (ltb (value_in b) 16) (all_digits w) e) in
    let z : i + suc (length w) ≡ suc i + length w = omega arith in
    rw z (number_below w (suc i) (n * 16 + value_in b) (one_more_lem i n (value_in b) h d) (second_part (ltb (value_in b) 16) (all_digits w) e))

-- every number is below 65,536
pub number_small : (w : List ℕ) → is_number w ≡ true → number_from 0 w < 65536
unfolding is_number
number_small w e =
    let t = first_part (leb 1 (length w) && leb (length w) 4) (all_digits w) e in
    let few = leb-true (length w) 4 (second_part (leb 1 (length w)) (leb (length w) 4) t) in
    let less = number_below w 0 0 (omega arith) (second_part (leb 1 (length w) && leb (length w) 4) (all_digits w) e) in
    omega (arith, four_digits (0 + length w) (omega arith), less)

-- a word from a place on, after digits that stand for n
abbrev pub rest : ℕ → List ℕ → Option ℕ
rest n w = cond (all_digits w) (Some (number_from n w)) None

module _ (w : List ℕ) where
  pub no_word : length w ≡ 0 → None ≡ number_in w
  unfolding number_in is_number
  no_word e = rw (lt-leb 1 (length w) (omega arith)) refl

  pub long_word : 4 < length w → None ≡ number_in w
  unfolding number_in is_number
  long_word h = rw (le-leb 1 (length w) (omega arith), lt-leb (length w) 4 h) refl

  pub record Reading (n i : ℕ) : Type 0 where
    pub inside : i ≤ length w
    pub below : n < most i
    pub same : rest n (drop i w) ≡ number_in w

  pub reading_start : (length w ≡ 0 → ⊥) → length w ≤ 4 → Reading 0 0
  unfolding number_in is_number
  reading_start z h =
      let k : 1 ≤ length w = omega (arith, z) in
      record { inside = omega arith; below = omega arith; same = rw (le-leb 1 (length w) k, le-leb (length w) 4 h) refl }

  module _ (n i : ℕ) (r : Reading n i) where
    pub reading_end : length w ≤ i → Some n ≡ number_in w
    unfolding all_digits number_from
    reading_end h = ap (rest n) (sym (drop_of_length-le w h)) ∙ r.same

    module _ (h : i < length w) (d : ℕ) (e : d ≡ value_in (get_or w i 0)) where
      here : drop i w ≡ get_or w i 0 ∷ drop (suc i) w
      here = drop-cons w i 0 h

      pub reading_stop : 16 ≤ d → None ≡ number_in w
      unfolding all_digits
      reading_stop f = let z : 16 ≤ value_in (get_or w i 0) = omega (arith, e, f) in rw (here, le-ltb (value_in (get_or w i 0)) 16 z) at r.same

      pub reading_next : d < 16 → Reading (n * 16 + d) (i + 1)
      unfolding all_digits number_from
      reading_next k =
          let z : value_in (get_or w i 0) < 16 = omega (arith, e) in
          record {
            inside = omega arith;
            below = rw add-one (one_more_lem i n d r.below k);
            same = rw (add-one, e) (rw (here, lt-ltb (value_in (get_or w i 0)) 16 z) at r.same);
          }
