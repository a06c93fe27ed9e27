-- The positions passed are met, and at no other could anything be taken up.
-- Assumes nothing.
use Rattle.std.proofs.Common.{◌-◌, length}
use Rattle.marks.specs.Tracer.{tracer_of}
use Rattle.sweep.proofs.Passing.{Passing}
use Rattle.sweep.proofs.sweep.sweep_once.Given as goal

abbrev pub invariant-loop-p : goal.invariant-loop-p
invariant-loop-p l = Passing (tracer_of l.mode l.image) l.initial.marks l.marks l.p l.way

abbrev pub decreases-loop-p : goal.decreases-loop-p
decreases-loop-p l = length l.image - l.p
