-- A log in blocks. Document 02, W11: a held refusal first, then 1, 2, 6 and 11, which refuse only their block and change nothing; the counts
-- grow as lines arrive, so after a refusal they hold the lines before the refused one.
-- Assumes nothing.
use Rattle.std.specs.Prelude.{ℕ, Bool, cond, List, eqb}
use Rattle.instruction.specs.Answer.{Answer, after}
use Rattle.instruction.specs.declared.mode.Mode.{Mode}
use Rattle.views.specs.Positions.{some}
use Rattle.replay.specs.Take.{State, state, block_of}
use Rattle.replay.specs.Answers.{lent_answer, or_else, told_of}
use Rattle.replay.specs.declared.log.Log.{Log}
use Rattle.replay.specs.declared.answer.Totals.{Totals}

-- p is one of the entries
abbrev pub is_entry_of : List ℕ → ℕ → Bool
is_entry_of entries p = some (eqb p) entries

module _ (l : Log) (mode : Mode) (text image m entries counts : List ℕ) where
  -- the record and the counts, where nothing is refused beforehand
  abbrev pub fed : State
  fed = block_of mode image m (is_entry_of entries) (state l counts) text

  unfoldable pub block_answer : Answer Totals
  block_answer = cond (eqb l.refusal 0) (or_else (lent_answer image m counts) (told_of fed.log)) (told_of l)

  unfoldable pub block_log : Log
  block_log = cond (eqb l.refusal 0) (after (lent_answer image m counts) fed.log l) l

  unfoldable pub block_counts : List ℕ
  block_counts = cond (eqb l.refusal 0) (after (lent_answer image m counts) fed.counts counts) counts
