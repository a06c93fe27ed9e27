-- The line that names an image. Document 02, W14: `N`, tab, a name of 1 to 32 letters or digits; the name is printed as `-` if the line is bad.
-- Assumes nothing.
use Rattle.std.specs.Prelude.{ℕ, Bool, true, cond, ◌&&◌, ◌||◌, List, [], ◌∷◌, eqb, leb, length, get_or, drop}
use Prim.Native.Char.{code}
use Rattle.text.specs.Hex.{within}

-- a digit, an upper-case letter or a lower-case letter
abbrev pub is_letter_or_digit : ℕ → Bool
is_letter_or_digit b = within 48 57 b || (within 65 90 b || within 97 122 b)

unfoldable pub all_named : List ℕ → Bool
all_named [] = true
all_named (b ∷ bs) = is_letter_or_digit b && all_named bs

unfoldable pub is_name : List ℕ → Bool
is_name n = leb 1 (length n) && (leb (length n) 32 && all_named n)

-- the name, which stands after `N` and the tab
abbrev pub name_in : List ℕ → List ℕ
name_in l = drop 2 l

unfoldable pub is_name_line : List ℕ → Bool
is_name_line l = eqb (get_or l 0 0) (code "N") && (eqb (get_or l 1 0) 9 && is_name (name_in l))

-- the name that is printed
unfoldable pub name_of : List ℕ → List ℕ
name_of l = cond (is_name_line l) (name_in l) (code "-" ∷ [])
