-- The loop of `arrival::put_arrivals`: those counted and those left are all, and the room with those that are left written on is the room with
-- all written.
-- Assumes nothing.
use Rattle.std.proofs.Common.{◌≡◌, ◌+◌, ◌≤◌, length}
use lib.Seq.{sets}
use Rattle.arrivals.specs.Arrivals.{arrivals_of}
use Rattle.arrivals.proofs.Arriving.{left_from}
use Rattle.arrivals.proofs.arrival.put_arrivals.Given as goal

abbrev pub invariant-loop-q : goal.invariant-loop-q
invariant-loop-q l =
    (l.count + length (left_from l.mode l.image l.marks l.p l.from) ≡ length (arrivals_of l.mode l.image l.marks l.p))
    × (length (arrivals_of l.mode l.image l.marks l.p) ≤ length l.initial.room
    → sets l.room l.count (left_from l.mode l.image l.marks l.p l.from) ≡ sets l.initial.room 0 (arrivals_of l.mode l.image l.marks l.p))

abbrev pub decreases-loop-q : goal.decreases-loop-q
decreases-loop-q l = length (left_from l.mode l.image l.marks l.p l.from)
