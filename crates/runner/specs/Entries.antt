-- The entries of a list: a letter, and then the rest of its line.
-- Assumes nothing.
use Rattle.std.specs.Prelude.{ℕ, eqb, List, [], ◌∷◌, Option, Some, None}
use Rattle.std.specs.List.{before_first, after_first}

-- the first entry
abbrev pub entry_of : List ℕ → Option (ℕ × List ℕ)
entry_of [] = None
entry_of (letter ∷ list) = Some (letter, before_first (λ b. eqb b 10) list)

-- what follows its line
abbrev pub after_entry : List ℕ → List ℕ
after_entry [] = []
after_entry (letter ∷ list) = after_first (λ b. eqb b 10) list
