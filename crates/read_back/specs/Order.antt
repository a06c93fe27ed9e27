-- The order of lines. Document 02, W1: positions may not fall; at one position `L`, `O`, `A`, `I` come in that order, each at most once, or
-- one `D` alone.
-- Assumes nothing.
use Rattle.std.specs.Prelude.{ℕ, suc, ◌+◌, Bool, cond, ◌&&◌, ◌||◌, eqb, ltb}
use Prim.Native.Char.{code}
use Rattle.read_back.specs.declared.place.Place.{Place}
use Rattle.read_back.specs.declared.place.Record.{Record}

-- where a letter stands in the order; 0 for any other byte
abbrev pub rank_of : ℕ → ℕ
rank_of c =
    cond (eqb c (code "L")) 1
    (cond (eqb c (code "O")) 2
    (cond (eqb c (code "A")) 3
    (cond (eqb c (code "I")) 4
    (cond (eqb c (code "D")) 5 0))))

-- the first line, which no line stands before
abbrev pub start : Place
start = record { at = 0; line = 1; last = 0; letter = 0 }

-- no line before, or a higher position, or the same position, a later letter and no `D`
unfoldable pub follows : Place → Record → Bool
follows place r =
    eqb (rank_of place.letter) 0
    || (ltb place.last r.position
    || (eqb place.last r.position && (ltb (rank_of place.letter) (rank_of r.letter) && ltb (rank_of r.letter) 5)))

-- the number of the next line; the last number that a machine word has stays, which only a place made by hand can have
unfoldable pub line_after : ℕ → ℕ
line_after k = cond (ltb k 18446744073709551615) (suc k) k

-- the place after a line of n bytes with this record: past its byte 10
unfoldable pub place_after : Place → ℕ → Record → Place
place_after place n r = record { at = suc (place.at + n); line = line_after place.line; last = r.position; letter = r.letter }
