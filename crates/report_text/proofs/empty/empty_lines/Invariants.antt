-- What is counted, and what is left to count.
use Rattle.std.proofs.Common.{◌≡◌, ◌+◌, length}
use Rattle.report_text.specs.Empty.{empty_lines}
use Rattle.report_text.proofs.empty.empty_lines.Given as goal

abbrev pub invariant-loop-left : goal.invariant-loop-left
invariant-loop-left l = l.n + empty_lines l.left ≡ empty_lines l.fn.text

abbrev pub decreases-loop-left : goal.decreases-loop-left
decreases-loop-left l = length l.left
