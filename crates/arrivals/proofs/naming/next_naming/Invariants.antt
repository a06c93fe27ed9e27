-- The loop of `naming::next_naming`: from where it stands on the lowest is the same as from its start on.
-- Assumes nothing.
use Rattle.std.proofs.Common.{◌≡◌}
use Rattle.arrivals.specs.Index.{lowest_of}
use Rattle.arrivals.specs.Search.{may_name}
use Rattle.arrivals.proofs.naming.next_naming.Given as goal

abbrev pub invariant-loop-q : goal.invariant-loop-q
invariant-loop-q l = lowest_of (may_name l.image l.marks) l.end l.q ≡ lowest_of (may_name l.image l.marks) l.end l.from
