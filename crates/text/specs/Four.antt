-- Four upper-case hex digits, which stand for a number. Document 01, 'The listing': 'four upper-case hex digits each'.
-- Assumes nothing.
use Rattle.std.specs.Prelude.{ℕ, ◌+◌, ◌*◌, Bool, true, cond, ◌&&◌, List, [], ◌∷◌, eqb, length, get_or}
use Rattle.text.specs.Hex.{digit_of, all_hex}

-- four digits and nothing else
unfoldable pub is_four : List ℕ → Bool
is_four f = eqb (length f) 4 && all_hex f

-- each of these is four digits
unfoldable pub all_four : List (List ℕ) → Bool
all_four [] = true
all_four (f ∷ fs) = is_four f && all_four fs

-- the number that four digits stand for
unfoldable pub four_of : List ℕ → ℕ
four_of f = ((digit_of (get_or f 0 0) * 16 + digit_of (get_or f 1 0)) * 16 + digit_of (get_or f 2 0)) * 16 + digit_of (get_or f 3 0)

-- of a field: that number, or 65,536, which no four digits stand for
unfoldable pub four_in : List ℕ → ℕ
four_in f = cond (is_four f) (four_of f) 65536
