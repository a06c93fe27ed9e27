-- The loop of `tell::whole`: what is counted and what is left make the whole.
-- Assumes nothing.
use Rattle.std.proofs.Common.{◌+◌}
use Rattle.map.proofs.Telling.{Left}
use Rattle.map.proofs.tell.whole.Given as goal

abbrev pub invariant-loop-w : goal.invariant-loop-w
invariant-loop-w l = Left l.words l.first l.last l.n (l.first + l.w-index)
