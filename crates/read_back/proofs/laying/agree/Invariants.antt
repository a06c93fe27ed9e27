-- The bytes so far contradict nothing.
-- Assumes nothing.
use Rattle.std.proofs.Common.{◌≡◌, ◌+◌, ◌*◌, length, drop}
use Rattle.text.specs.Bytes.{bytes_of}
use Rattle.read_back.specs.Turn.{agree_to}
use Rattle.read_back.proofs.laying.agree.Given as goal

abbrev pub invariant-loop-pair : goal.invariant-loop-pair
invariant-loop-pair l =
    agree_to l.end l.image l.p (bytes_of l.digits) ≡ agree_to l.end l.image (l.p + length l.yielded) (bytes_of (drop (length l.yielded * 2) l.digits))
