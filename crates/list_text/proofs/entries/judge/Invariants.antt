-- What is left of the line, with the entries before it, makes the line.
-- Assumes nothing.
use Rattle.std.proofs.Common.{◌≤◌, length}
use Rattle.list_text.proofs.Fields.{Left}
use Rattle.list_text.proofs.entries.judge.Given as goal

abbrev pub invariant-loop-n : goal.invariant-loop-n
invariant-loop-n l = (l.at ≤ length l.line) × Left l.line l.at l.n
