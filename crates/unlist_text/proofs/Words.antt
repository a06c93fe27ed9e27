-- A word's digits one by one.
-- Assumes nothing.
use mathlib.Core.Path.{◌≡◌, refl, sym}
use mathlib.Core.Bool.{Bool, true, false, ◌&&◌}
use mathlib.Core.List.{List}
use Prim.Native.Nat.{ℕ, zero, suc, ◌+◌, ◌*◌, ◌-◌, ◌^◌, ◌≤◌, ◌<◌}
use native.Mathlib.Nat.{pow-suc, pow-le-pow_right}
use native.Mathlib.Numerals.{add-one}
use native.Mathlib.Omega.{arith}
use lib.Dec.{leb}
use Rattle.std.specs.Prelude.{Some, None}
use lib.ListN.{length, get_or, drop, drop_of_length-le}
use lib.Seq.{drop-cons}
use borrow.Author.Tests.{leb-true, le-leb, lt-leb}
use Rattle.instruction.proofs.Sign.{never}
use Rattle.unlist_text.specs.Number.{is_decimal, argument_from, argument_of}

pub digit_range : (b : ℕ) → is_decimal b ≡ true → (48 ≤ b) × (b ≤ 57)
digit_range b e = by (leb 48 b) refl (leb b 57) refl e
  where
    by : (s : Bool) → leb 48 b ≡ s → (t : Bool) → leb b 57 ≡ t → (s && t) ≡ true → (48 ≤ b) × (b ≤ 57)
    by true f true g e = (leb-true 48 b f, leb-true b 57 g)
    by true f false g e = absurd (never (sym e))
    by false f t g e = absurd (never (sym e))

module _ (word : List ℕ) where
  -- too short or too long
  pub empty_word : length word ≡ 0 → None ≡ argument_of word
  unfolding argument_of
  empty_word e = rw e

  pub long_word : 9 < length word → None ≡ argument_of word
  unfolding argument_of
  long_word h = rw (le-leb 1 (length word) (omega arith), lt-leb (length word) 9 h)

  pub good_length : (length word ≡ 0 → ⊥) → length word ≤ 9 → argument_from 0 word ≡ argument_of word
  unfolding argument_of
  good_length f h = by (length word) refl
    where
      by : (k : ℕ) → length word ≡ k → argument_from 0 word ≡ argument_of word
      by zero e = absurd (f e)
      by (suc k) e = rw (le-leb 1 (length word) (omega arith), le-leb (length word) 9 h)

  module _ (i n : ℕ) where
    pub word_stop : i < length word → is_decimal (get_or word i 0) ≡ false → argument_from n (drop i word) ≡ None
    unfolding argument_from
    word_stop h e = rw (drop-cons word i 0, e)

    pub word_more : i < length word → is_decimal (get_or word i 0) ≡ true
        → argument_from n (drop i word) ≡ argument_from (n * 10 + (get_or word i 0 - 48)) (drop (i + 1) word)
    unfolding argument_from
    word_more h e = rw (add-one, drop-cons word i 0, e)

    pub word_end : length word ≤ i → argument_from n (drop i word) ≡ Some n
    unfolding argument_from
    word_end h = rw (drop_of_length-le word h)

-- so many digits say less than that power of ten
pub more_digits : (n i d : ℕ) → n < 10 ^ i → d ≤ 9 → n * 10 + d < 10 ^ (i + 1)
more_digits n i d h k = rw (add-one, pow-suc 10 i) (omega arith)

pub few_digits : (i : ℕ) → i ≤ 8 → 10 ^ i ≤ 100000000
few_digits i h = pow-le-pow_right {n = 10} (omega arith) h
