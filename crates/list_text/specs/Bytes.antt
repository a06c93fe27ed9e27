-- A line of image bytes. Document 01, 'The listing': 'lines of 1 to 32 image bytes in upper-case hex'.
-- Assumes nothing.
use Rattle.std.specs.Prelude.{ℕ, cond, List, [], ◌∷◌, ◌++◌, length, Option, Some, None}
use Rattle.text.specs.Bytes.{bytes_of, is_bytes}

-- a good line, with the number of its bytes
unfoldable pub bytes_line : List ℕ → Option ℕ
bytes_line l = cond (is_bytes 32 l) (Some (length (bytes_of l))) None

-- the bytes of one line after the other
unfoldable pub bytes_in_lines : List (List ℕ) → List ℕ
bytes_in_lines [] = []
bytes_in_lines (l ∷ ls) = bytes_of l ++ bytes_in_lines ls
