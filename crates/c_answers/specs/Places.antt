-- A place in a listing as words that the caller keeps, and the values of a line that was read. Document 02, W1: the reader answers each record
-- with its place.
-- Assumes nothing.
use Rattle.std.specs.Prelude.{ℕ, ◌%◌, ◌^◌, List, [], ◌∷◌, ℤ, pos, get_or}
use Rattle.instruction.specs.Answer.{Answer, accepted, refused}
use Rattle.read_back.specs.Read.{Found, listed, ended}
use Rattle.read_back.specs.declared.place.Place.{Place}

-- the place that four words hold, any words at all: of a number that is larger than its kind, the lower bits. A line's number has 63, as a
-- value for C has, a position 32, a letter 8
abbrev pub place_in : List ℕ → Place
place_in ws = record {
  at = get_or ws 0 0;
  line = get_or ws 1 0 % 2 ^ 63;
  last = get_or ws 2 0 % 2 ^ 32;
  letter = get_or ws 3 0 % 2 ^ 8;
}

-- and the words of a place
abbrev pub place_words : Place → List ℕ
place_words p = p.at ∷ p.line ∷ p.last ∷ p.letter ∷ []

-- of a line: its letter, its position, and how many positions or bytes follow; none at the end
abbrev pub line_values : Found → List ℤ
line_values (listed r next) = pos r.letter ∷ pos r.position ∷ pos r.count ∷ []
line_values ended = []

-- the words after a call: the next place where a line was read; otherwise they stay
abbrev pub words_after : Answer Found → List ℕ → List ℕ
words_after (accepted (listed r next)) ws = place_words next
words_after (accepted ended) ws = ws
words_after (refused n vs) ws = ws
