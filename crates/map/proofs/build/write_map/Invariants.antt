-- The loop of `build::write_map`: before p the bytes of the traced instructions are set.
-- Assumes nothing.
use Rattle.std.proofs.Common.{◌≡◌, ◌++◌, drop}
use Rattle.map.proofs.Marking.{Marked}
use Rattle.map.proofs.build.write_map.Given as goal

abbrev pub invariant-loop-p : goal.invariant-loop-p
invariant-loop-p l = l.words ≡ Marked l.image l.marks l.p ++ drop l.need l.fn.words
