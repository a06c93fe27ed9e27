-- What is counted, and what is left to count.
use Rattle.std.proofs.Common.{◌≡◌, ◌+◌, ◌-◌, ◌<◌, drop}
use Rattle.report_text.specs.Empty.{empty_lines}
use Rattle.report_text.proofs.empty.in_part.Given as goal

abbrev pub invariant-loop-i : goal.invariant-loop-i
invariant-loop-i l = (l.n < l.i) × (l.n + empty_lines (drop (l.i - 1) l.part) ≡ empty_lines l.part)
