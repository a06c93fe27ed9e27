-- The loop stands where the definition's run stands.
-- Assumes nothing.
use Rattle.std.proofs.Common.{◌-◌, length}
use Rattle.reach.proofs.Stand.{Stand}
use Rattle.marks.specs.Tracer.{tracer_of}
use Rattle.trace.proofs.run.run_on.Given as goal

abbrev pub invariant-loop-head : goal.invariant-loop-head
invariant-loop-head l = Stand (tracer_of l.mode l.image) l.most l.initial.marks l.initial.order l.initial.tail l.marks l.order l.tail l.head

abbrev pub decreases-loop-head : goal.decreases-loop-head
decreases-loop-head l = length l.image - l.head
