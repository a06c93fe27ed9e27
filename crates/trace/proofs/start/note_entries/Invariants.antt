-- The entries passed are noted, and counted.
-- Assumes nothing.
use Rattle.std.proofs.Common.{◌≡◌, length, take}
use Rattle.reach.specs.Note.{note, fresh}
use Rattle.trace.proofs.start.note_entries.Given as goal

abbrev pub invariant-loop-t : goal.invariant-loop-t
invariant-loop-t l =
    (l.marks ≡ note l.n (take l.t-index l.entries) l.initial.marks) × (l.set ≡ length (fresh l.n (take l.t-index l.entries) l.initial.marks))
