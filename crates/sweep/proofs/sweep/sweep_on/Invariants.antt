-- The sweeps that are left are the rest of all.
-- Assumes nothing.
use Rattle.std.proofs.Common.{◌≤◌, length}
use Rattle.marks.specs.Tracer.{tracer_of}
use Rattle.sweep.specs.Way.{Between}
use Rattle.sweep.proofs.Sweeping.{Sweeping}
use Rattle.sweep.proofs.sweep.sweep_on.Given as goal

abbrev pub invariant-loop-sweeps : goal.invariant-loop-sweeps
invariant-loop-sweeps l =
    Sweeping (tracer_of l.mode l.image) l.initial.marks l.marks l.sweeps l.steps × (l.from ≤ length l.image) × (l.to ≤ length l.image)
    × Between (tracer_of l.mode l.image) l.marks l.from l.to
