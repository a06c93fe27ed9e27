-- Of inner functions: the positions of `I` lines as a table of bits, 0 where there is one.
-- Assumes nothing.
use Rattle.std.specs.Prelude.{ℕ, ◌+◌, ◌/◌, ◌%◌, cond, not, ◌&&◌, List, map, eqb, get_or, set}
use Prim.Native.Char.{code}
use Rattle.map.specs.Bits.{one, between, digits}
use Rattle.map.specs.Words.{data_at}
use Rattle.reach.specs.Mark.{traced}
use Rattle.views.specs.Positions.{up_from}
use Rattle.read_back.specs.declared.place.Record.{Record}

-- the word with the bits from a on and before e cleared
unfoldable pub with_zeros : ℕ → ℕ → ℕ → ℕ
with_zeros w a e = digits (λ (i : ℕ). one w i && not (between a e i)) 64 0

-- the table with the bit of q cleared
unfoldable pub with_noted : ℕ → List ℕ → List ℕ
with_noted q ws = set ws (q / 64) (with_zeros (get_or ws (q / 64) 0) (q % 64) (q % 64 + 1))

-- the table after a line with this record
abbrev pub noted_by : Record → List ℕ → List ℕ
noted_by r ws = cond (eqb r.letter (code "I")) (with_noted r.position ws) ws

-- the marks of n positions
unfoldable pub marks_in : List ℕ → ℕ → List ℕ
marks_in ws n = map (λ (q : ℕ). cond (data_at ws q) traced 0) (up_from n 0)
