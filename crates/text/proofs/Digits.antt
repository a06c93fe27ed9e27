-- Digits: what their values are, and that no byte but the sixteen is one.
-- Assumes nothing.
use mathlib.Core.Path.{◌≡◌, refl, sym, ◌∙◌}
use mathlib.Core.Bool.{Bool, true, false, cond, ◌&&◌, ◌||◌}
use mathlib.Core.List.{List}
use Prim.Native.Nat.{ℕ, suc, ◌+◌, ◌-◌, ◌*◌, ◌/◌, ◌%◌, ◌≤◌, ◌<◌}
use native.Mathlib.Numerals.{add-one}
use native.Mathlib.Omega.{arith}
use lib.Dec.{leb}
use lib.ListN.{length, get_or, drop, drop_of_length-le, get_or-eq_default}
use lib.Seq.{drop-cons}
use borrow.Author.Tests.{leb-true}
use Rattle.instruction.proofs.Ands.{first_part, second_part}
use Rattle.instruction.proofs.Sign.{never}
use Rattle.text.specs.Hex.{within, is_digit, digit_of, all_hex, value_of}

between : (low high b : ℕ) → within low high b ≡ true → (low ≤ b) × (b ≤ high)
between low high b e = (leb-true low b (first_part (leb low b) (leb b high) e), leb-true b high (second_part (leb low b) (leb b high) e))

-- a digit's value is below 16, and so two make a byte
pub digit_small : (b : ℕ) → digit_of b < 16
unfolding digit_of
digit_small b = by (within 48 57 b) refl (within 65 70 b) refl
  where
    by : (t : Bool) → within 48 57 b ≡ t → (u : Bool) → within 65 70 b ≡ u → cond t (b - 48) (cond u (b - 55) 0) < 16
    by true e u f = let h = between 48 57 b e in omega (arith, h.1)
    by false e true f = let h = between 65 70 b f in omega (arith, h.1)
    by false e false f = omega arith

pub no_value : (b : ℕ) → is_digit b ≡ false → 0 ≡ digit_of b
unfolding digit_of
no_value b e = by (within 48 57 b) refl (within 65 70 b) refl e
  where
    by : (t : Bool) → within 48 57 b ≡ t → (u : Bool) → within 65 70 b ≡ u → (t || u) ≡ false → 0 ≡ cond t (b - 48) (cond u (b - 55) 0)
    by true f u g h = absurd (never h)
    by false f true g h = absurd (never h)
    by false f false g h = refl

-- past the end stands no digit
pub none_at : (s : List ℕ) (i : ℕ) → length s ≤ i → 0 ≡ digit_of (get_or s i 0)
unfolding digit_of
none_at s i h = rw (get_or-eq_default s 0 h)

-- all digits: those before a place, and those from it on
module _ (s : List ℕ) (i : ℕ) (all : Bool) (e : all_hex s ≡ (all && all_hex (drop i s))) where
  pub hex_more : i < length s → (d : Bool) → d ≡ is_digit (get_or s i 0) → all_hex s ≡ ((all && d) && all_hex (drop (i + 1) s))
  unfolding all_hex
  hex_more h d f = e ∙ rw (add-one, drop-cons s i 0 h, f) (both all (is_digit (get_or s i 0)) (all_hex (drop (suc i) s)))
    where
      both : (x y z : Bool) → (x && (y && z)) ≡ ((x && y) && z)
      both true y z = refl
      both false y z = refl

  pub hex_end : length s ≤ i → all ≡ all_hex s
  unfolding all_hex
  hex_end h = sym (e ∙ rw (drop_of_length-le s h) (alone all))
    where
      alone : (x : Bool) → (x && true) ≡ x
      alone true = refl
      alone false = refl

-- the value of a byte: 65,536 where it is no digit
pub value_none : (b : ℕ) → is_digit b ≡ false → 65536 ≡ value_of b
value_none b e = rw e

pub value_some : (b : ℕ) → is_digit b ≡ true → digit_of b ≡ value_of b
value_some b e = rw e

-- a digit by its low four bits: 9 more for a letter
pub digit_by_bits : (b : ℕ) → is_digit b ≡ true → (b % 16 + 9 * (b / 64) ≡ digit_of b) × (b % 16 + 9 * (b / 64) < 16)
unfolding digit_of
digit_by_bits b e = by (within 48 57 b) refl (within 65 70 b) refl e
  where
    by : (t : Bool) → within 48 57 b ≡ t → (u : Bool) → within 65 70 b ≡ u → (t || u) ≡ true
        → (b % 16 + 9 * (b / 64) ≡ cond t (b - 48) (cond u (b - 55) 0)) × (b % 16 + 9 * (b / 64) < 16)
    by true f u g h = let k = between 48 57 b f in (omega (arith, k.0, k.1), omega (arith, k.0, k.1))
    by false f true g h = let k = between 65 70 b g in (omega (arith, k.0, k.1), omega (arith, k.0, k.1))
    by false f false g h = absurd (never (sym h))
