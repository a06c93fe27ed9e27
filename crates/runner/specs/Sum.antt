-- The checksum of POSIX `cksum`: a remainder of polynomials over two elements, a bit of a number for each coefficient.
-- Assumes nothing.
use Rattle.std.specs.Prelude.{ℕ, ◌-◌, ◌*◌, ◌/◌, ◌^◌, cond, ltb, bit_xor, List, length, take, fold}
use Rattle.std.specs.Int.{w64, leading_zeros, to_le_bytes}
use Rattle.std.specs.Fn.{iterate}

-- one bit more: the polynomial is taken off where the highest bit goes out
abbrev pub sum_after_bit : ℕ → ℕ
sum_after_bit s = cond (ltb s (2 ^ 31)) (s * 2) (bit_xor ((s - 2 ^ 31) * 2) 0x04C1_1DB7)

-- one byte more
abbrev pub sum_after_byte : ℕ → ℕ → ℕ
sum_after_byte s b = iterate sum_after_bit 8 (bit_xor s (b * 2 ^ 24))

abbrev pub sum_after_bytes : ℕ → List ℕ → ℕ
sum_after_bytes s bytes = fold sum_after_byte s bytes

-- the bytes of a length, the lowest first, up to the last that is not 0
abbrev pub length_bytes : ℕ → List ℕ
length_bytes n = take (8 - leading_zeros w64 n / 8) (to_le_bytes w64 n)

-- the bytes and then their length, and each bit the other way round at the end
abbrev pub checksum_of : List ℕ → ℕ
checksum_of bytes = 2 ^ 32 - 1 - sum_after_bytes (sum_after_bytes 0 bytes) (length_bytes (length bytes))
