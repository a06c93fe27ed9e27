-- The loop of `index_fill::index_into` has entered the positions from q on.
-- Assumes nothing.
use Rattle.arrivals.specs.Entered.{Entered}
use Rattle.arrivals.proofs.index_fill.index_into.Given as goal

abbrev pub invariant-loop-q : goal.invariant-loop-q
invariant-loop-q l = Entered l.mode l.image l.marks l.q l.index
