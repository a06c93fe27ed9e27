-- Of inner functions alone: tables of numbers as the digits of words, the first lowest, and three of them in bytes. Document 02, W4.
-- Assumes nothing.
use Rattle.std.specs.Prelude.{ℕ, zero, suc, ◌+◌, ◌*◌, ◌/◌, ◌%◌, [], slice_index_or}
use Rattle.instruction.specs.Pattern.{value}
use Rattle.instruction.specs.declared.kind.Shape.{Shape}
use Rattle.instruction.specs.declared.kind.Shape.TheVariants.{Bare, Imm, D9, Ri, ImmD9, ImmRi, D9B3, A12, A16, R16, R8, D9B3R8, D9R8, RiR8, ImmR8}
use Rattle.instruction.specs.declared.kind.Shape.TheVariants.{RiImmR8}
use Rattle.instruction.specs.Forms.{form_at, bits}
use Rattle.instruction.specs.Grid.{entry}

-- n numbers of the table f from its place k on
abbrev pub digits_from : ℕ → (ℕ → ℕ) → ℕ → ℕ → ℕ
digits_from base f zero k = 0
digits_from base f (suc n) k = f k + base * digits_from base f n (suc k)

-- a word of eight bytes
unfoldable pub table_word : (ℕ → ℕ) → ℕ → ℕ
table_word f w = digits_from 256 f 8 (8 * w)

-- the forms by first byte: column after column of sixteen rows each
unfoldable pub by_column : ℕ → ℕ
by_column k = entry (k % 16) (k / 16)

-- the fixed bits of the first byte of a form
unfoldable pub fixed_at : ℕ → ℕ
fixed_at k = value (slice_index_or (bits (form_at k)) 0 []) []

-- a shape's place in the order of their declaration
abbrev pub shape_number : Shape → ℕ
shape_number Bare = 0
shape_number Imm = 1
shape_number D9 = 2
shape_number Ri = 3
shape_number ImmD9 = 4
shape_number ImmRi = 5
shape_number D9B3 = 6
shape_number A12 = 7
shape_number A16 = 8
shape_number R16 = 9
shape_number R8 = 10
shape_number D9B3R8 = 11
shape_number D9R8 = 12
shape_number RiR8 = 13
shape_number ImmR8 = 14
shape_number RiImmR8 = 15

-- that of the operands of a form
unfoldable pub shape_at : ℕ → ℕ
shape_at k = shape_number (form_at k).shape
