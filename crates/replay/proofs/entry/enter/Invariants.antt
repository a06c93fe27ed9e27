-- The entries so far are in the table.
-- Assumes nothing.
use Rattle.replay.specs.Entry.{with_entries}
use Rattle.replay.proofs.Entries.{Enters}
use Rattle.replay.proofs.entry.enter.Given as goal

abbrev pub invariant-loop-q : goal.invariant-loop-q
invariant-loop-q l = Enters l.entries l.table l.q-index (with_entries l.entries l.fn.table)
