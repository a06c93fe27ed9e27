-- The values of an input where it is accepted. Document 01, 'The listing': line 1 entries, then lines of image bytes.
-- Assumes nothing.
use Rattle.std.specs.Prelude.{List, [], ◌∷◌, ℤ, pos}
use Rattle.list_text.specs.declared.parsed.Input.{Input}

-- how many entries, and how many bytes
abbrev pub input_values : Input → List ℤ
input_values c = pos c.entries ∷ pos c.bytes ∷ []
