-- The values of a replay where it is accepted, and its record as words. Document 02, W10: the lines, interrupts and free moves; W11: the record
-- holds the totals, the last position, any refusal, and one partial line.
-- Assumes nothing.
use Rattle.std.specs.Prelude.{ℕ, List, [], ◌∷◌, ℤ, pos, get_or}
use Rattle.replay.specs.declared.answer.Totals.{Totals}
use Rattle.replay.specs.declared.log.Log.{Log}

abbrev pub replay_values : Totals → List ℤ
replay_values t = pos t.lines ∷ pos t.interrupts ∷ pos t.free ∷ []

-- the record that seven words hold, any words at all
abbrev pub log_of : List ℕ → Log
log_of ws = record {
  lines = get_or ws 0 0;
  interrupts = get_or ws 1 0;
  free = get_or ws 2 0;
  last = get_or ws 3 0;
  refusal = get_or ws 4 0;
  held = get_or ws 5 0;
  part = get_or ws 6 0;
}

-- and the words of a record
abbrev pub words_of : Log → List ℕ
words_of l = l.lines ∷ l.interrupts ∷ l.free ∷ l.last ∷ l.refusal ∷ l.held ∷ l.part ∷ []
