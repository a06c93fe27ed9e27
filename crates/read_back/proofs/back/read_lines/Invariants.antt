-- The lines so far were good, and what is still to be read decides as all of it did.
-- Assumes nothing.
use Rattle.std.proofs.Common.{◌+◌, ◌-◌, length}
use Rattle.read_back.proofs.Going.{Going}
use Rattle.read_back.proofs.back.read_lines.Given as goal

abbrev pub invariant-loop-place : goal.invariant-loop-place
invariant-loop-place l = Going l.mode l.text (length l.fn.image) l.place l.image l.table l.end

abbrev pub decreases-loop-place : goal.decreases-loop-place
decreases-loop-place l = length l.text + 1 - l.place.at
