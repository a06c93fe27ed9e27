-- The digits that are left, written after those that were, are all.
-- Assumes nothing.
use Rattle.std.proofs.Common.{◌≡◌}
use Rattle.std.proofs.lemmas.List.Edits.{sets}
use Rattle.list_text.specs.Decimal.{lowest}
use Rattle.list_text.proofs.decimal.put.Given as goal

abbrev pub invariant-loop-i : goal.invariant-loop-i
invariant-loop-i l = sets l.room l.at (lowest l.i l.left) ≡ sets l.initial.room l.at (lowest l.fn.k l.fn.n)
