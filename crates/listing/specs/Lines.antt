-- The lines of the listing. Document 01, 'The listing': `L`, `O` and `A` carry the position after the letter, `O` and `A` then one field
-- per position found. `I` has position, bytes, mnemonic and operands, `D` position and bytes.
-- Assumes nothing.
use Rattle.std.specs.Prelude.{ℕ, Bool, true, cond, ◌&&◌, List, [], ◌∷◌, map, eqb, ltb, take, drop, Result, Ok, Err}
use Prim.Native.Char.{code}
use Rattle.instruction.specs.Encode.{form_in}
use Rattle.instruction.specs.Forms.{size_of}
use Rattle.instruction.specs.Mnemonic.{mnemonic_of}
use Rattle.instruction.specs.Parts.{parts_of}
use Rattle.instruction.specs.declared.instr.Instr.{Instr}
use Rattle.instruction.specs.declared.mode.Mode.{Mode}
use Rattle.targets.specs.Here.{here_of}
use Rattle.targets.specs.Targets.{next_of}
use Rattle.targets.specs.declared.not_whole.NotWhole.{NotWhole}
use Rattle.targets.specs.declared.not_whole.NotWhole.TheVariants.{Cut, Outside}
use Rattle.listing.specs.Hex.{hex4, hexes}
use Rattle.listing.specs.Line.{line}
use Rattle.listing.specs.Operand.{operands}

unfoldable pub label_line : ℕ → List ℕ
label_line p = line (code "L") (hex4 p ∷ [])

-- a line of positions that were found, left out if there are none
abbrev pub found_line : ℕ → ℕ → List ℕ → List ℕ
found_line letter p [] = []
found_line letter p (q ∷ qs) = line letter (hex4 p ∷ map hex4 (q ∷ qs))

unfoldable pub overlap_line : ℕ → List ℕ → List ℕ
overlap_line p qs = found_line (code "O") p qs

unfoldable pub arrival_line : ℕ → List ℕ → List ℕ
arrival_line p qs = found_line (code "A") p qs

-- the instruction i at p, with which these bytes begin
unfoldable pub instr_text : Mode → ℕ → Instr → List ℕ → List ℕ
instr_text mode p i bytes =
    line (code "I") (hex4 p ∷ hexes (take (size_of (form_in i)) bytes) ∷ mnemonic_of (parts_of i).form ∷ operands mode p i)

abbrev pub instr_line : Mode → List ℕ → ℕ → Instr → List ℕ
instr_line mode image p i = instr_text mode p i (drop p image)

-- what stands at p; a traced instruction that is cut off was refused before
abbrev pub here_line : Mode → List ℕ → ℕ → Result Instr NotWhole → List ℕ
here_line mode image p (Ok i) = instr_line mode image p i
here_line mode image p (Err (Cut c)) = []
here_line mode image p (Err Outside) = []

-- bytes by themselves at p: the line of the instruction that they begin with; none where it is cut off, or next is over 65,536
abbrev pub code_by : Mode → ℕ → List ℕ → Result Instr NotWhole → List ℕ
code_by mode p bytes (Ok i) = cond (ltb 65536 (next_of p i)) [] (instr_text mode p i bytes)
code_by mode p bytes (Err (Cut c)) = []
code_by mode p bytes (Err Outside) = []

unfoldable pub code_line : Mode → ℕ → List ℕ → List ℕ
code_line mode p bytes = code_by mode p bytes (here_of bytes 0)

abbrev pub all_zero : List ℕ → Bool
all_zero [] = true
all_zero (b ∷ bs) = eqb b 0 && all_zero bs

-- a data run, left out if all zero
unfoldable pub data_line : ℕ → List ℕ → List ℕ
data_line p bytes = cond (all_zero bytes) [] (line (code "D") (hex4 p ∷ hexes bytes ∷ []))
