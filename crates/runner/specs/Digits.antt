-- What digits stand for.
-- Assumes nothing.
use Rattle.std.specs.Prelude.{ℕ, ◌+◌, ◌-◌, ◌*◌, ◌^◌, ◌&&◌, cond, leb, ltb, List, [], ◌∷◌, Option, Some, None, unwrap_or}
use Rattle.runner.specs.declared.digits.Numeral.{Numeral}
use Rattle.runner.specs.declared.digits.Numeral.TheVariants.{Decimal, Hex}

-- an upper-case hex digit
abbrev pub hex_digit_of : ℕ → Option ℕ
hex_digit_of b = cond (leb 48 b && leb b 57) (Some (b - 48)) (cond (leb 65 b && leb b 70) (Some (b - 55)) None)

-- a decimal digit
abbrev pub decimal_digit_of : ℕ → Option ℕ
decimal_digit_of b = cond (leb 48 b && leb b 57) (Some (b - 48)) None

-- a digit of a numeral
abbrev pub digit_of : Numeral → ℕ → Option ℕ
digit_of Decimal = decimal_digit_of
digit_of Hex = hex_digit_of

-- the byte of two hex digits, each 0 where it is none; 0 where there are not two
abbrev pub byte_of : List ℕ → ℕ
byte_of [] = 0
byte_of (b ∷ []) = 0
byte_of (high ∷ low ∷ []) = unwrap_or (hex_digit_of high) 0 * 16 + unwrap_or (hex_digit_of low) 0
byte_of (high ∷ low ∷ b ∷ digits) = 0

-- the bytes of one pair after the other; 0 of a digit that is left over
abbrev pub in_pairs : List ℕ → List ℕ
in_pairs [] = []
in_pairs (b ∷ []) = 0 ∷ []
in_pairs (high ∷ low ∷ digits) = byte_of (high ∷ low ∷ []) ∷ in_pairs digits

-- the number after so much of it: ten times as much for each digit, and what the digit stands for, until it is above 10 ^ 12
abbrev pub number_from : (ℕ → Option ℕ) → ℕ → List ℕ → ℕ
number_from digit n [] = n
number_from digit n (b ∷ digits) = cond (ltb (10 ^ 12) n) n (number_from digit (n * 10 + unwrap_or (digit b) 0) digits)
