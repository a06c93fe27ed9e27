-- The bits of a 64-bit word. Document 02, W3, 'A packed map beside the mask': bit 0 is the lowest.
-- Assumes nothing.
use Rattle.std.specs.Prelude.{ℕ, zero, suc, ◌+◌, ◌*◌, ◌/◌, ◌%◌, ◌^◌, Bool, cond, not, ◌&&◌, ◌||◌, eqb, ltb, leb}
pub use Rattle.views.specs.Positions.{bit}

-- bit i of w is 1
unfoldable pub one : ℕ → ℕ → Bool
one w i = eqb (w / 2 ^ i % 2) 1

-- the number whose k bits, the lowest first, are 1 where the k positions from p on pass the test
unfoldable pub digits : (ℕ → Bool) → ℕ → ℕ → ℕ
digits f zero p = 0
digits f (suc k) p = digits f k (suc p) * 2 + bit (f p)

-- how many of the k positions from p on pass the test
unfoldable pub count_in : (ℕ → Bool) → ℕ → ℕ → ℕ
count_in f zero p = 0
count_in f (suc k) p = bit (f p) + count_in f k (suc p)

-- the first of the k positions from p on that passes the test, or else where they end
unfoldable pub first_in : (ℕ → Bool) → ℕ → ℕ → ℕ
first_in f zero p = p
first_in f (suc k) p = cond (f p) p (first_in f k (suc p))

-- i is below t
abbrev pub lows : ℕ → ℕ → Bool
lows t i = ltb i t

-- i lies from a on and before e
abbrev pub between : ℕ → ℕ → ℕ → Bool
between a e i = leb a i && ltb i e

-- how many of a word's 64 bits are 1 and lie from a on and before e
unfoldable pub ones_between : ℕ → ℕ → ℕ → ℕ
ones_between w a e = count_in (λ (i : ℕ). one w i && between a e i) 64 0

-- the first of a word's 64 bits that is 0 and lies from a on, or else 64
unfoldable pub first_zero : ℕ → ℕ → ℕ
first_zero w a = first_in (λ (i : ℕ). leb a i && not (one w i)) 64 0

-- the word with the bits from a on and before e set
unfoldable pub with_ones : ℕ → ℕ → ℕ → ℕ
with_ones w a e = digits (λ (i : ℕ). one w i || between a e i) 64 0
