-- What remains of the line, written from here, is the whole line written.
-- Assumes nothing.
use Rattle.std.proofs.Common.{◌≤◌, length}
use Rattle.list_text.proofs.FieldPuts.{Putting}
use Rattle.list_text.proofs.entries.write.Given as goal

abbrev pub invariant-loop-entry : goal.invariant-loop-entry
invariant-loop-entry l = (l.at ≤ length l.line) × Putting l.line l.initial.room l.room l.at l.entry-index
