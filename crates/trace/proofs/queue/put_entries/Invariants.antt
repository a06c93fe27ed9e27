-- The entries passed are noted.
-- Assumes nothing.
use Rattle.std.proofs.Common.{take}
use Rattle.reach.specs.Queue.{Noted}
use Rattle.trace.proofs.queue.put_entries.Given as goal

abbrev pub invariant-loop-t : goal.invariant-loop-t
invariant-loop-t l = Noted l.n (take l.t-index l.entries) l.initial.marks l.initial.order 0 l.marks l.order l.tail
