-- The loop of `damage::any_wrong` has looked at the positions before p.
-- Assumes nothing.
use Rattle.std.proofs.Common.{◌≡◌}
use Rattle.views.specs.Positions.{up_from, some}
use Rattle.views.specs.View.{wrong_at}
use Rattle.views.proofs.damage.any_wrong.Given as goal

abbrev pub invariant-loop-p : goal.invariant-loop-p
invariant-loop-p l = l.any ≡ some (wrong_at l.image l.marks) (up_from l.p 0)
