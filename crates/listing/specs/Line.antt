-- A line. Document 01, 'The listing': tab-parted, each line ended by byte 10. A line has a letter and then its fields.
-- Assumes nothing.
use Rattle.std.specs.Prelude.{ℕ, List, [], ◌∷◌, ◌++◌}

-- a tab and the field, for each field, and byte 10
unfoldable pub fields_text : List (List ℕ) → List ℕ
fields_text [] = 10 ∷ []
fields_text (f ∷ fs) = 9 ∷ f ++ fields_text fs

abbrev pub line : ℕ → List (List ℕ) → List ℕ
line letter fs = letter ∷ fields_text fs
