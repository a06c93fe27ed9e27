-- What is said of the lines from here is what is said of all.
-- Assumes nothing.
use Rattle.std.proofs.Common.{◌-◌, length}
use Rattle.list_text.proofs.Turns.{Judging}
use Rattle.list_text.proofs.read.judge_image.Given as goal

abbrev pub invariant-loop-at : goal.invariant-loop-at
invariant-loop-at l = Judging l.text l.from l.entries l.at l.k l.bytes

abbrev pub decreases-loop-at : goal.decreases-loop-at
decreases-loop-at l = length l.text - l.at
