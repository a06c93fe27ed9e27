-- What is counted, and what is left to count.
use Rattle.std.proofs.Common.{◌≡◌, ◌+◌, ◌≤◌, drop}
use Rattle.reach.specs.Mark.{count}
use Rattle.report_text.specs.Figures.{is_set}
use Rattle.report_text.proofs.count.set_in.Given as goal

abbrev pub invariant-loop-b : goal.invariant-loop-b
invariant-loop-b l = (l.n ≤ l.b-index) × (l.n + count is_set (drop l.b-index l.room) ≡ count is_set l.room)
