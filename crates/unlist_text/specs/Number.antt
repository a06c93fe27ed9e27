-- A number that a word of the command line says: 1 to 9 decimal digits. Ours, for `unlist`.
-- Assumes nothing.
use Rattle.std.specs.Prelude.{ℕ, ◌+◌, ◌*◌, ◌-◌, Bool, cond, ◌&&◌, Option, Some, None, List, [], ◌∷◌, leb, length}

-- 0 to 9
abbrev pub is_decimal : ℕ → Bool
is_decimal b = leb 48 b && leb b 57

-- digits after others, which say n
unfoldable pub argument_from : ℕ → List ℕ → Option ℕ
argument_from n [] = Some n
argument_from n (b ∷ bs) = cond (is_decimal b) (argument_from (n * 10 + (b - 48)) bs) None

unfoldable pub argument_of : List ℕ → Option ℕ
argument_of word = cond (leb 1 (length word) && leb (length word) 9) (argument_from 0 word) None
