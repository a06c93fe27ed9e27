-- A whole log. Document 02, W10: the replay answers the lines, interrupts and free moves and leaves in the counts one more for each line; a
-- refused replay leaves the counts as found.
-- Assumes nothing.
use Rattle.std.specs.Prelude.{ℕ, List}
use Rattle.instruction.specs.Answer.{Answer, after}
use Rattle.instruction.specs.declared.mode.Mode.{Mode}
use Rattle.replay.specs.Log.{begun}
use Rattle.replay.specs.Take.{State, state, block_of}
use Rattle.replay.specs.Answers.{lent_answer, or_else, closed_of}
use Rattle.replay.specs.Block.{is_entry_of}
use Rattle.replay.specs.declared.answer.Totals.{Totals}

module _ (mode : Mode) (text image m entries counts : List ℕ) where
  -- the record and the counts at the end of the log
  abbrev pub replayed : State
  replayed = block_of mode image m (is_entry_of entries) (state begun counts) text

  unfoldable pub replay_answer : Answer Totals
  replay_answer = or_else (lent_answer image m counts) (closed_of replayed.log)

  unfoldable pub replay_counts : List ℕ
  replay_counts = after replay_answer replayed.counts counts
