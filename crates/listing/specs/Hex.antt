-- Hex digits. Document 01, 'The listing': hex is upper case, positions four digits.
-- Assumes nothing.
use Rattle.std.specs.Prelude.{ℕ, ◌+◌, ◌/◌, ◌%◌, cond, List, [], ◌∷◌, ◌++◌, ltb}

-- 0 to 9, then A to F
abbrev pub letter_of : ℕ → ℕ
letter_of n = cond (ltb n 10) (48 + n) (55 + n)

-- the lowest digit of a number
unfoldable pub hex1 : ℕ → ℕ
hex1 n = letter_of (n % 16)

-- its lowest two, three and four, the highest first
unfoldable pub hex2 : ℕ → List ℕ
hex2 n = hex1 (n / 16) ∷ hex1 n ∷ []

unfoldable pub hex3 : ℕ → List ℕ
hex3 n = hex1 (n / 256) ∷ hex2 n

unfoldable pub hex4 : ℕ → List ℕ
hex4 n = hex1 (n / 4096) ∷ hex3 n

-- bytes, two digits each
unfoldable pub hexes : List ℕ → List ℕ
hexes [] = []
hexes (b ∷ bs) = hex2 b ++ hexes bs
