-- The loop of `view::check` has passed no damage.
-- Assumes nothing.
use Rattle.views.proofs.Refusing.{Left}
use Rattle.views.proofs.view.check.Given as goal

abbrev pub invariant-loop-p : goal.invariant-loop-p
invariant-loop-p l = Left l.image l.marks l.p
