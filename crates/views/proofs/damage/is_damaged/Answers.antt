-- What is not found of `damage::is_damaged`: which test speaks.
-- Assumes nothing.
use mathlib.Core.Path.{◌∙◌}
use borrow.Author.Tests.{lt-ltb, le-ltb}
use Rattle.views.proofs.Checking.{over, not_over}
use Rattle.views.proofs.damage.is_damaged.Goals as goal

pub returns-then-mark-gt-HIGHEST : goal.returns-then-mark-gt-HIGHEST
returns-then-mark-gt-HIGHEST c =
    let a = c.args in
    let e = lt-ltb 4 _ c.if-mark-gt-HIGHEST.true in e ∙ over a.image.now a.p a.marks.now e

pub returns-else-mark-gt-HIGHEST : goal.returns-else-mark-gt-HIGHEST
returns-else-mark-gt-HIGHEST c =
    let a = c.args in
    c.is_misplaced.ensures ∙ not_over a.image.now a.p a.marks.now (le-ltb 4 _ c.if-mark-gt-HIGHEST.false)
