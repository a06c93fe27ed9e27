-- The loop of `find::skip_full`: up to where it stands there are ones alone.
-- Assumes nothing.
use Rattle.std.proofs.Common.{◌*◌}
use Rattle.map.specs.Words.{Full}
use Rattle.map.proofs.find.skip_full.Given as goal

abbrev pub invariant-loop-j : goal.invariant-loop-j
invariant-loop-j l = Full l.words l.to l.q (l.j * 64)
