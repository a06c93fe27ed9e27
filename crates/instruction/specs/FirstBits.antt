-- Of inner functions alone: what a first byte says, and the shape of its operands, as four bits of a word each.
-- Assumes nothing.
use Rattle.std.specs.Prelude.{ℕ, ◌+◌, ◌*◌, [], ◌∷◌, slice_index_or}
use Rattle.instruction.specs.Tables.{digits_from, shape_at}
use Rattle.instruction.specs.Flow.{flow_of}
use Rattle.instruction.specs.Forms.{form_at, form_of, size_of}
use Rattle.instruction.specs.declared.flow.Flow.{Flow}
use Rattle.instruction.specs.declared.flow.Flow.TheVariants.{Stop, Next, Jump, Branch}

-- a flow's two bits
abbrev pub bits_of : Flow → ℕ
bits_of Stop = 0
bits_of Next = 1
bits_of Jump = 2
bits_of Branch = 3

-- the flow of two bits
unfoldable pub flow_at : ℕ → Flow
flow_at n = slice_index_or (Stop ∷ Next ∷ Jump ∷ Branch ∷ []) n Stop

-- the size of the byte's form in the lower two bits, and where control goes from it in the upper two
unfoldable pub said_by : ℕ → ℕ
said_by x = size_of (form_at (form_of x)) + 4 * bits_of (flow_of (form_of x))

-- the number of the shape of the operands of the byte's form
unfoldable pub shaped_by : ℕ → ℕ
shaped_by x = shape_at (form_of x)

-- four bits of each of the sixteen first bytes that have these low four bits, row by row
unfoldable pub column_word : (ℕ → ℕ) → ℕ → ℕ
column_word f low = digits_from 16 (λ (row : ℕ). f (16 * row + low)) 16 0
