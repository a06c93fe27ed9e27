-- Upper-case hex. Document 01, 'The listing': 'in upper-case hex'.
-- Assumes nothing.
use Rattle.std.specs.Prelude.{ℕ, ◌-◌, Bool, true, cond, ◌&&◌, ◌||◌, List, [], ◌∷◌, leb}

-- a byte from low to high
abbrev pub within : ℕ → ℕ → ℕ → Bool
within low high b = leb low b && leb b high

-- 0 to 9, A to F
abbrev pub is_digit : ℕ → Bool
is_digit b = within 48 57 b || within 65 70 b

-- the value of a digit; 0 for any other byte
unfoldable pub digit_of : ℕ → ℕ
digit_of b = cond (within 48 57 b) (b - 48) (cond (within 65 70 b) (b - 55) 0)

-- the value of a digit; 65,536, which no four digits stand for, for any other byte
abbrev pub value_of : ℕ → ℕ
value_of b = cond (is_digit b) (digit_of b) 65536

-- every byte is a digit
unfoldable pub all_hex : List ℕ → Bool
all_hex [] = true
all_hex (b ∷ bs) = is_digit b && all_hex bs
