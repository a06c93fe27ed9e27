-- What is not found of `fall::falls`: whether it had targets.
-- Assumes nothing.
use mathlib.Core.Path.{sym, ◌∙◌}
use Rattle.arrivals.proofs.Falls.{unheld_falls, held_falls}
use Rattle.arrivals.proofs.fall.falls.Goals as goal

pub returns-then-had_targets : goal.returns-then-had_targets
returns-then-had_targets c =
    let a = c.args in
    c.falls_to.ensures ∙ held_falls a.mode a.image.now a.marks.now a.p a.q (sym c.had_targets.ensures ∙ c.if-had_targets.true)

pub returns-else-had_targets : goal.returns-else-had_targets
returns-else-had_targets c =
    let a = c.args in
    c.if-had_targets.false ∙ unheld_falls a.mode a.image.now a.marks.now a.p a.q (sym c.had_targets.ensures ∙ c.if-had_targets.false)
