-- The packing of a byte mask, and bits set in it. Document 02, W3: one bit per image byte in 64-bit words, bit 0 of word 0 for position 0,
-- and zero bits past the image.
-- Assumes nothing.
use Rattle.std.specs.Prelude.{ℕ, zero, suc, ◌+◌, ◌*◌, ◌/◌, ◌%◌, Bool, not, List, map, eqb, length, get_or, set}
use Rattle.map.specs.Bits.{digits, with_ones}
use Rattle.map.specs.Words.{words_for}
use Rattle.views.specs.Positions.{up_from}

-- byte q of a mask is not 0; past its end there is none
abbrev pub masked_at : List ℕ → ℕ → Bool
masked_at mask q = not (eqb (get_or mask q 0) 0)

-- word j: its bit i is 1 where byte 64 * j + i of the mask is not 0
unfoldable pub word_of : List ℕ → ℕ → ℕ
word_of mask j = digits (masked_at mask) 64 (64 * j)

-- as many words as the mask needs
unfoldable pub packed : List ℕ → List ℕ
packed mask = map (word_of mask) (up_from (words_for (length mask)) 0)

-- the map with the bit of position q set
unfoldable pub with_code : List ℕ → ℕ → List ℕ
with_code ws q = set ws (q / 64) (with_ones (get_or ws (q / 64) 0) (q % 64) (q % 64 + 1))

-- with the bits of the k positions from p on set
unfoldable pub covered : List ℕ → ℕ → ℕ → List ℕ
covered ws zero p = ws
covered ws (suc k) p = covered (with_code ws p) k (suc p)
