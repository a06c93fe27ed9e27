-- The parts so far are held.
use Rattle.std.proofs.Common.{◌≡◌, ◌≤◌, ◌-◌, length}
use Rattle.report_text.specs.Going.{going, Gone}
use Rattle.report_text.specs.declared.sums.Sums.{Sums}
use Rattle.report_text.proofs.gather.gather.Given as goal

abbrev pub invariant-loop-at : goal.invariant-loop-at
invariant-loop-at l =
    (l.at ≤ length l.text) × (length l.room ≡ length l.fn.room)
    × ((s : Sums) → Gone (going s l.initial.held l.initial.fresh l.fn.room) l.text (going s l.held l.fresh l.room) l.at)

abbrev pub decreases-loop-at : goal.decreases-loop-at
decreases-loop-at l = length l.text - l.at
