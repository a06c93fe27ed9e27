-- The loop of `search::next_named`: from where it stands on the lowest is the same as from its start on.
-- Assumes nothing.
use Rattle.std.proofs.Common.{◌≡◌, ◌-◌}
use Rattle.arrivals.specs.Index.{lowest_of, names_held}
use Rattle.arrivals.proofs.search.next_named.Given as goal

abbrev pub invariant-loop-q : goal.invariant-loop-q
invariant-loop-q l = lowest_of (names_held l.mode l.image l.marks l.p) l.end l.at ≡ lowest_of (names_held l.mode l.image l.marks l.p) l.end l.from

abbrev pub decreases-loop-q : goal.decreases-loop-q
decreases-loop-q l = l.end - l.at
