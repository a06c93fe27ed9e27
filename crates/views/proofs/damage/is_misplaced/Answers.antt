-- What is not found of `damage::is_misplaced`: which test speaks.
-- Assumes nothing.
use mathlib.Core.Path.{sym, ◌∙◌}
use Rattle.views.proofs.Checking.{off, on, untraced}
use Rattle.views.proofs.damage.is_misplaced.Goals as goal

pub returns-then-is_off_jmpf : goal.returns-then-is_off_jmpf
returns-then-is_off_jmpf c =
    let a = c.args in
    c.if-is_off_jmpf.true ∙ off a.image.now a.p a.mark (sym c.is_off_jmpf.ensures ∙ c.if-is_off_jmpf.true)

pub returns-then-is_traced : goal.returns-then-is_traced
returns-then-is_traced c =
    let a = c.args in
    c.is_cut.ensures
    ∙ on a.image.now a.p a.mark (sym c.is_off_jmpf.ensures ∙ c.if-is_off_jmpf.false) (sym c.is_traced.ensures ∙ c.if-is_traced.true)

pub returns-else-is_traced : goal.returns-else-is_traced
returns-else-is_traced c =
    let a = c.args in
    c.if-is_traced.false
    ∙ untraced a.image.now a.p a.mark (sym c.is_off_jmpf.ensures ∙ c.if-is_off_jmpf.false) (sym c.is_traced.ensures ∙ c.if-is_traced.false)
