-- Of inner functions alone: where the bits of the operands stand, by their shape. Document 01, 'Forms': 'Fields, as the patterns in 000
-- place them'. Each of the 70 patterns is proved to be its shape's but for the fixed bits of its first byte (proofs/Shapes.antt).
-- Assumes nothing.
use Rattle.std.specs.Prelude.{ℕ, ◌+◌, ◌%◌, cond, List, [], ◌∷◌, ◌++◌, length, drop, ℤ, nat_le}
use Rattle.instruction.specs.Kinds.{kind_at}
use Rattle.instruction.specs.declared.kind.Shape.{Shape}
use Rattle.instruction.specs.declared.kind.Shape.TheVariants.{Bare, Imm, D9, Ri, ImmD9, ImmRi, D9B3, A12, A16, R16, R8, D9B3R8, D9R8, RiR8, ImmR8}
use Rattle.instruction.specs.declared.kind.Shape.TheVariants.{RiImmR8}
use Rattle.instruction.specs.Code.{operand_of, code_of}
use Rattle.instruction.specs.Pattern.{Bit, O, of, field, filled}
use Rattle.instruction.specs.declared.layout.Fields.{Fields}

-- eight bits of an operand, from bit k up
abbrev pub eight_bits : ℕ → ℕ → List Bit
eight_bits l k = of l (k + 7) ∷ of l (k + 6) ∷ of l (k + 5) ∷ of l (k + 4) ∷ of l (k + 3) ∷ of l (k + 2) ∷ of l (k + 1) ∷ of l (k + 0) ∷ []

-- a first byte that holds nothing; bit 8 of an operand; two bits; bit 8 and a bit number; bits 11 to 8
abbrev pub none : List Bit
none = O ∷ O ∷ O ∷ O ∷ O ∷ O ∷ O ∷ O ∷ []

abbrev pub bit8 : ℕ → List Bit
bit8 l = O ∷ O ∷ O ∷ O ∷ O ∷ O ∷ O ∷ of l 8 ∷ []

abbrev pub low2 : ℕ → List Bit
low2 l = O ∷ O ∷ O ∷ O ∷ O ∷ O ∷ of l 1 ∷ of l 0 ∷ []

abbrev pub bit8b3 : List Bit
bit8b3 = O ∷ O ∷ O ∷ of 0 8 ∷ O ∷ of 1 2 ∷ of 1 1 ∷ of 1 0 ∷ []

abbrev pub high4 : List Bit
high4 = O ∷ O ∷ O ∷ of 0 11 ∷ O ∷ of 0 10 ∷ of 0 9 ∷ of 0 8 ∷ []

-- the pattern of a shape: where the bits of its operands stand, with 0 for every fixed bit
unfoldable pub blank : Shape → List (List Bit)
blank Bare = none ∷ []
blank Imm = none ∷ eight_bits 0 0 ∷ []
blank D9 = bit8 0 ∷ eight_bits 0 0 ∷ []
blank Ri = low2 0 ∷ []
blank ImmD9 = bit8 1 ∷ eight_bits 1 0 ∷ eight_bits 0 0 ∷ []
blank ImmRi = low2 1 ∷ eight_bits 0 0 ∷ []
blank D9B3 = bit8b3 ∷ eight_bits 0 0 ∷ []
blank A12 = high4 ∷ eight_bits 0 0 ∷ []
blank A16 = none ∷ eight_bits 0 8 ∷ eight_bits 0 0 ∷ []
blank R16 = none ∷ eight_bits 0 0 ∷ eight_bits 0 8 ∷ []
blank R8 = none ∷ eight_bits 0 0 ∷ []
blank D9B3R8 = bit8b3 ∷ eight_bits 0 0 ∷ eight_bits 2 0 ∷ []
blank D9R8 = bit8 0 ∷ eight_bits 0 0 ∷ eight_bits 1 0 ∷ []
blank RiR8 = low2 0 ∷ eight_bits 1 0 ∷ []
blank ImmR8 = none ∷ eight_bits 0 0 ∷ eight_bits 1 0 ∷ []
blank RiImmR8 = low2 0 ∷ eight_bits 1 0 ∷ eight_bits 2 0 ∷ []

-- ---- what is read

-- operand l in a byte string
abbrev pub operand_by : Shape → List ℕ → ℕ → ℤ
operand_by t s l = operand_of (kind_at t l) (field l (blank t) s 0)

unfoldable pub fields_by : Shape → List ℕ → Fields
fields_by t s = record { a = operand_by t s 0; b = operand_by t s 1; c = operand_by t s 2 }

-- ---- what is written

-- the first byte with its fixed bits
abbrev pub on_fixed : ℕ → List ℕ → List ℕ
on_fixed u [] = []
on_fixed u (n ∷ ns) = (u + n) % 256 ∷ ns

-- the bytes for the numbers of the operands
unfoldable pub bytes_by : ℕ → Shape → List ℕ → List ℕ
bytes_by u t ns = on_fixed u (filled (blank t) ns)

-- a room afterwards: the bytes, and the rest as it was; where it is too short, all as it was
unfoldable pub written_room : ℕ → Shape → ℤ → ℤ → ℤ → List ℕ → List ℕ
written_room u t a b c room =
    cond (nat_le (length (blank t)) (length room)) (bytes_by u t (code_of a ∷ code_of b ∷ code_of c ∷ []) ++ drop (length (blank t)) room) room
