-- What follows the bytes on an `I` line. Document 01, 'The listing': `I` has position, bytes, mnemonic and operands.
-- Assumes nothing.
use Rattle.std.specs.Prelude.{ℕ, cond, List, [], ◌∷◌, eqb, ltb, length}
use Rattle.instruction.specs.Answer.{Answer, accepted, refused}
use Rattle.instruction.specs.Decode.{decode_answer}
use Rattle.instruction.specs.Encode.{form_in}
use Rattle.instruction.specs.Forms.{size_of}
use Rattle.instruction.specs.Mnemonic.{mnemonic_of}
use Rattle.instruction.specs.Parts.{parts_of}
use Rattle.instruction.specs.declared.instr.Instr.{Instr}
use Rattle.instruction.specs.declared.mode.Mode.{Mode}
use Rattle.targets.specs.Targets.{next_of}
use Rattle.listing.specs.Line.{fields_text}
use Rattle.listing.specs.Operand.{operands}

-- the mnemonic and the operands of the instruction i at p, ended by byte 10
unfoldable pub instr_rest : Mode → ℕ → Instr → List ℕ
instr_rest mode p i = fields_text (mnemonic_of (parts_of i).form ∷ operands mode p i)

-- of n bytes for which decode answers so: none where the instruction has fewer, or next is over 65,536
abbrev pub rest_by : Mode → ℕ → ℕ → Answer Instr → List ℕ
rest_by mode p n (accepted i) = cond (eqb (size_of (form_in i)) n) (cond (ltb 65536 (next_of p i)) [] (instr_rest mode p i)) []
rest_by mode p n (refused k vs) = []

-- bytes by themselves at p
unfoldable pub code_rest : Mode → ℕ → List ℕ → List ℕ
code_rest mode p bytes = rest_by mode p (length bytes) (decode_answer bytes)
