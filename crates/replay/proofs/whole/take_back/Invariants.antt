-- The last lines are taken out of the counts, which keep their length.
-- Assumes nothing.
use Rattle.std.proofs.Common.{◌≡◌}
use Rattle.replay.specs.Back.{taken_back, Counted}
use Rattle.replay.proofs.whole.take_back.Given as goal

abbrev pub invariant-loop-k : goal.invariant-loop-k
invariant-loop-k l = Counted l.text l.k l.counts × (taken_back l.text l.k l.counts ≡ taken_back l.text l.lines l.fn.counts)
