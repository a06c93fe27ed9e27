-- The positions before i are marked as the table tells.
-- Assumes nothing.
use Rattle.std.proofs.Common.{◌-◌}
use Rattle.read_back.proofs.Marking.{Marking}
use Rattle.read_back.proofs.noted.put_marks.Given as goal

abbrev pub invariant-loop-i : goal.invariant-loop-i
invariant-loop-i l = Marking l.table l.n l.initial.marks l.marks l.i

abbrev pub decreases-loop-i : goal.decreases-loop-i
decreases-loop-i l = l.n - l.i
