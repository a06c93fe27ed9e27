-- Each call takes a byte at least, or the loop is left.
use Rattle.std.proofs.Common.{length}
use Rattle.vectors_terms.proofs.blocks.feed.Given as goal

abbrev pub decreases-loop-left : goal.decreases-loop-left
decreases-loop-left l = length l.left
