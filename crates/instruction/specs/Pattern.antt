-- What a bit pattern of source document 000 says, read from its text, as "1000001[a8] [a7][a6][a5][a4][a3][a2][a1][a0]": bytes are
-- parted by a space, and a byte's bits stand from the highest to the lowest. `0` and `1` are fixed; `[a8]` is bit 8 of operand a.
-- Document 01, 'Forms': 'Fields, as the patterns in 000 place them'.
-- Assumes nothing.
use Rattle.std.specs.Prelude.{ℕ, suc, ◌+◌, ◌-◌, ◌*◌, ◌/◌, ◌%◌, ◌^◌, Bool, true, cond, ◌&&◌, List, [], ◌∷◌, ◌++◌, length, ◌==◌, nat_le, slice_index}
use Prim.Native.Char.{Char, code}
use Prim.Native.String.{String, [] as end, ◌∷◌ as ◌then◌}

-- a fixed bit, or bit k of operand l: operand 0 is a, 1 is b, 2 is c
pub data Bit : Type 0 where
  O : Bit
  I : Bit
  of : ℕ → ℕ → Bit

-- where the reader of a text stands: outside brackets, or inside, with the operand and the number read so far
pub data Bracket : Type 0 where
  outside_bracket : Bracket
  inside_bracket : ℕ → ℕ → Bracket

abbrev pub is : Char → Char → Bool
is c d = code c == code d

unfoldable pub next_bracket : Bracket → Char → Bracket
next_bracket outside_bracket c = cond (is c "[") (inside_bracket 0 0) outside_bracket
next_bracket (inside_bracket l k) c =
    cond (is c "]") outside_bracket
    (cond (nat_le (code "a") (code c)) (inside_bracket (code c - code "a") 0) (inside_bracket l (k * 10 + (code c - code "0"))))

unfoldable pub bits_given : Bracket → Char → List Bit
bits_given outside_bracket c = cond (is c "0") (O ∷ []) (cond (is c "1") (I ∷ []) [])
bits_given (inside_bracket l k) c = cond (is c "]") (of l k ∷ []) []

unfoldable pub onto : List Bit → List (List Bit) → List (List Bit)
onto bs [] = bs ∷ []
onto bs (byte ∷ bytes) = (bs ++ byte) ∷ bytes

-- a text's bytes, each a list of bits from the highest
unfoldable pub pattern_bytes : Bracket → String → List (List Bit)
pattern_bytes p end = []
pattern_bytes p (c then s) = let rest : List (List Bit) = pattern_bytes (next_bracket p c) s in cond (is c " ") ([] ∷ rest) (onto (bits_given p c) rest)

unfoldable pub pattern : String → List (List Bit)
pattern s = pattern_bytes outside_bracket s

-- bit k of a number
abbrev pub bit_of : ℕ → ℕ → ℕ
bit_of n k = n / 2 ^ k % 2

abbrev pub fixed : Bit → ℕ → Bool
fixed O d = d == 0
fixed I d = d == 1
fixed (of l k) d = true

-- the byte n has the fixed bits
abbrev pub agrees : List Bit → ℕ → Bool
agrees [] n = true
agrees (x ∷ xs) n = fixed x (bit_of n (length xs)) && agrees xs n

-- what a bit d of the byte string gives to operand l
abbrev pub gives : ℕ → Bit → ℕ → ℕ
gives l O d = 0
gives l I d = 0
gives l (of m k) d = cond (l == m) (d * 2 ^ k) 0

abbrev pub part : ℕ → List Bit → ℕ → ℕ
part l [] n = 0
part l (x ∷ xs) n = gives l x (bit_of n (length xs)) + part l xs n

-- the number that operand l has in a byte string, from its byte i on
abbrev pub field : ℕ → List (List Bit) → List ℕ → ℕ → ℕ
field l [] s i = 0
field l (p ∷ ps) s i = part l p (slice_index s i) + field l ps s (suc i)

-- the bit that stands for a place of the pattern where the operands have the numbers ns
abbrev pub bit_for : Bit → List ℕ → ℕ
bit_for O ns = 0
bit_for I ns = 1
bit_for (of l k) ns = bit_of (slice_index ns l) k

abbrev pub value : List Bit → List ℕ → ℕ
value [] ns = 0
value (x ∷ xs) ns = bit_for x ns * 2 ^ length xs + value xs ns

-- the pattern's bytes for the numbers ns
abbrev pub filled : List (List Bit) → List ℕ → List ℕ
filled [] ns = []
filled (p ∷ ps) ns = value p ns ∷ filled ps ns
