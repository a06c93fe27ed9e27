-- Each call takes a byte at least.
use Rattle.std.proofs.Common.{length}
use Rattle.report.proofs.feed.Given as goal

abbrev pub decreases-loop-left : goal.decreases-loop-left
decreases-loop-left l = length l.left
