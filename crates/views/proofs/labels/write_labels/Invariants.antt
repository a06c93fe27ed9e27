-- The loop of `labels::write_labels` has marked what the positions so far name.
-- Assumes nothing.
use Rattle.views.proofs.Labelling.{Labels}
use Rattle.views.proofs.labels.write_labels.Given as goal

abbrev pub invariant-loop-p : goal.invariant-loop-p
invariant-loop-p l = Labels l.mode l.image l.marks l.initial.room l.p l.room
