-- What stands beside the number of refusal 5. Document 01, 'Numbers given when a call says no', and document 02, W2.
-- Assumes nothing.
use Rattle.std.specs.Prelude.{List, [], ◌∷◌, ℤ, pos}
use Rattle.instruction.specs.declared.answer.CutOff.{CutOff}

-- position, first byte, and how many bytes are missing
abbrev pub cut_values : CutOff → List ℤ
cut_values c = pos c.position ∷ pos c.first ∷ pos c.missing ∷ []
