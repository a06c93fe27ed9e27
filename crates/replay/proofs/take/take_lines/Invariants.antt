-- The lines so far are taken.
-- Assumes nothing.
use Rattle.std.proofs.Common.{◌≡◌, ◌*◌, drop}
use Rattle.map.specs.Words.{code_at}
use Rattle.replay.specs.Take.{state, feed_of}
use Rattle.replay.proofs.take.take_lines.Given as goal

abbrev pub invariant-loop-line : goal.invariant-loop-line
invariant-loop-line l =
    feed_of l.fn.ground.mode l.fn.ground.image.now l.fn.ground.marks.now (code_at l.fn.ground.table.now) (state l.after l.counts) (drop (l.line-index * 7) l.text)
    ≡ feed_of l.fn.ground.mode l.fn.ground.image.now l.fn.ground.marks.now (code_at l.fn.ground.table.now) (state l.fn.log l.fn.counts) l.text
