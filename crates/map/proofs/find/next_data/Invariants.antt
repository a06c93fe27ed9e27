-- The loop of `find::next_data`: up to where it stands nothing is data.
-- Assumes nothing.
use Rattle.std.proofs.Common.{◌+◌, ◌-◌, ◌<◌, ◌≤◌}
use Rattle.map.proofs.Finding.{NoData}
use Rattle.map.proofs.find.next_data.Given as goal

abbrev pub invariant-loop-q : goal.invariant-loop-q
invariant-loop-q l = (l.from ≤ l.q) × (l.q < l.to + 64) × NoData l.words l.from l.to l.q

abbrev pub decreases-loop-q : goal.decreases-loop-q
decreases-loop-q l = l.to + 64 - l.q
