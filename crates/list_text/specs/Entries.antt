-- The line of entries. Document 01, 'The listing': 'line 1 entries (none to 256, four upper-case hex digits each, tab-parted)'.
-- Assumes nothing.
use Rattle.std.specs.Prelude.{ℕ, Bool, cond, ◌&&◌, List, map, leb, length, Option, Some, None}
use Rattle.text.specs.Cut.{fields}
use Rattle.text.specs.Four.{all_four, four_of}

-- none to 256 entries, each four digits
unfoldable pub is_entries : List ℕ → Bool
is_entries l = all_four (fields l) && leb (length (fields l)) 256

-- their numbers, in their order
abbrev pub entries_in : List ℕ → List ℕ
entries_in l = map four_of (fields l)

-- a good line, with the number of its entries
unfoldable pub entries_line : List ℕ → Option ℕ
entries_line l = cond (is_entries l) (Some (length (fields l))) None
