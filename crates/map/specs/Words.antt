-- The packed map. Document 02, W3: one bit per image byte in 64-bit words, bit 0 of word 0 for position 0, and zero bits past the image.
-- Assumes nothing.
use Rattle.std.specs.Prelude.{ℕ, ◌+◌, ◌/◌, ◌%◌, ◌<◌, ◌≤◌, Bool, true, not, List, ◌≡◌, get_or}
use Rattle.map.specs.Bits.{one}

-- how many words an image of n bytes needs
abbrev pub words_for : ℕ → ℕ
words_for n = (n + 63) / 64

-- the bit of position q is 1
unfoldable pub code_at : List ℕ → ℕ → Bool
code_at ws q = one (get_or ws (q / 64) 0) (q % 64)

-- and is 0
abbrev pub data_at : List ℕ → ℕ → Bool
data_at ws q = not (code_at ws q)

-- of an inner search: from q on and before r every bit is 1, and r is not further past `to` than a word
pub record Full (ws : List ℕ) (to q r : ℕ) : Type 0 where
  pub from : q ≤ r
  pub near : r < to + 64
  pub code : (i : ℕ) → q ≤ i → i < r → code_at ws i ≡ true
