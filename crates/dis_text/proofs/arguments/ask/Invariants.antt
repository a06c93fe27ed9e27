-- What is left of the words, after what was asked, asks for what all of them do.
-- Assumes nothing.
use Rattle.std.proofs.Common.{◌-◌, length}
use Rattle.dis_text.proofs.Asking.{Asking}
use Rattle.dis_text.proofs.arguments.ask.Given as goal

abbrev pub invariant-loop-at : goal.invariant-loop-at
invariant-loop-at l = Asking l.words l.entries l.pins l.asked l.at l.k

abbrev pub decreases-loop-at : goal.decreases-loop-at
decreases-loop-at l = length l.words - l.at
