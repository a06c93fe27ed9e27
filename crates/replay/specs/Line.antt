-- A line of a log. Document 02, W10: `P`, tab, position in four hex digits, and byte 10 at its end. The digits are upper case.
-- Assumes nothing.
use Rattle.std.specs.Prelude.{ℕ, ◌*◌, Bool, cond, ◌&&◌, List, eqb, length, get_or, take, drop}
use Prim.Native.Char.{code}
use Rattle.text.specs.Four.{is_four, four_of}

-- the four digits
abbrev pub digits_in : List ℕ → List ℕ
digits_in l = take 4 (drop 2 l)

-- seven bytes: `P`, tab, four digits, byte 10
unfoldable pub is_line : List ℕ → Bool
is_line l = eqb (length l) 7 && (eqb (get_or l 0 0) (code "P") && (eqb (get_or l 1 0) 9 && (eqb (get_or l 6 0) 10 && is_four (digits_in l))))

-- the position that it tells; 65,536, which no line tells, where it is none
unfoldable pub position_of : List ℕ → ℕ
position_of l = cond (is_line l) (four_of (digits_in l)) 65536

-- line k of a text, the first being 0, and the position that it tells
abbrev pub line_at : List ℕ → ℕ → List ℕ
line_at text k = take 7 (drop (7 * k) text)

abbrev pub position_at : List ℕ → ℕ → ℕ
position_at text k = position_of (line_at text k)
