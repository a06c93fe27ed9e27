-- What the core answers at a place: the record on the line that begins there and the place after it, the end, or 15 with the line's number.
-- Document 02, W1.
-- Assumes nothing.
use Rattle.std.specs.Prelude.{ℕ, Bool, cond, not, ◌&&◌, Option, Some, None, Result, Ok, Err, List, [], ◌∷◌, leb, pos, length, drop}
use Rattle.instruction.specs.Answer.{Answer, accepted, refused, refuse, judge}
use Rattle.instruction.specs.declared.mode.Mode.{Mode}
use Rattle.text.specs.Cut.{up_to}
use Rattle.read_back.specs.Line.{is_line, record_of}
use Rattle.read_back.specs.Order.{follows, place_after}
use Rattle.read_back.specs.declared.place.Place.{Place}
use Rattle.read_back.specs.declared.place.Record.{Record}
use Rattle.read_back.specs.declared.read.ReadError.{ReadError}

-- what is found at a place
pub data Found : Type 0 where
  listed : Record → Place → Found
  ended : Found

-- the number and values of each answer
abbrev pub read_of : Result (Option (Record × Place)) ReadError → Answer Found
read_of (Ok (Some p)) = accepted (listed p.0 p.1)
read_of (Ok None) = accepted ended
read_of (Err e) = refused 15 (pos e.line ∷ [])

-- a line that may stand at the place
abbrev pub is_good : Mode → Place → List ℕ → Bool
is_good mode place l = is_line mode l && follows place (record_of l)

abbrev pub line_answer : Mode → Place → List ℕ → Answer Found
line_answer mode place l =
    judge (refuse (not (is_good mode place l)) 15 (pos place.line ∷ []) ∷ []) (listed (record_of l) (place_after place (length l) (record_of l)))

-- a line goes up to its byte 10, which the last may lack; at or past the end of the text there is none
unfoldable pub read_answer : Mode → List ℕ → Place → Answer Found
read_answer mode text place =
    cond (leb (length text) place.at) (accepted ended) (line_answer mode place (up_to 10 (drop place.at text)))
