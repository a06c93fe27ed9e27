-- What resolve answers is an instruction of the same form, with every field in the range that encode takes. Document 01, 'Resolving
-- operands': 'Given plain i32 numbers and a base' and 'Encode itself takes fields'.
-- Assumes nothing.
use Rattle.std.specs.Prelude.{ℕ, ◌≡◌}
use Rattle.instruction.specs.Answer.{accepted}
use Rattle.instruction.specs.Encode.{fit_answer}
use Rattle.instruction.specs.Parts.{parts_of}
use Rattle.instruction.specs.Resolve.{resolve_answer}
use Rattle.instruction.specs.declared.instr.Instr.{Instr}
use Rattle.instruction.specs.declared.mode.Mode.{Mode}

-- j has the form of i, and its fields are in range
pub record FitsAs (i j : Instr) : Type 0 where
  pub form : (parts_of j).form ≡ (parts_of i).form
  pub fit : fit_answer j ≡ accepted tt

abbrev pub ResolvedFits : Type 0
ResolvedFits = (mode : Mode) (i : Instr) (base : ℕ) (j : Instr) → resolve_answer mode i base ≡ accepted j → FitsAs i j
