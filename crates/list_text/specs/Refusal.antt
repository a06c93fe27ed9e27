-- The line that a program prints where it refuses. Document 01, 'The listing': `R`, tab, refusal number; document 02, W2: a third field.
-- That `unlist` prints such lines too is ours.
-- Assumes nothing.
use Rattle.std.specs.Prelude.{ℕ, List, [], ◌∷◌, ◌++◌}
use Rattle.list_text.specs.Decimal.{decimal}

-- `R`, tab, the number
unfoldable pub number_line : ℕ → List ℕ
number_line n = 82 ∷ 9 ∷ decimal n ++ 10 ∷ []

-- and after it a tab and a value
unfoldable pub value_line : ℕ → ℕ → List ℕ
value_line n v = 82 ∷ 9 ∷ decimal n ++ 9 ∷ decimal v ++ 10 ∷ []
