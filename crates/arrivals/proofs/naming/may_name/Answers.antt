-- What is not found of `naming::may_name`: the two tests of the definition.
-- Assumes nothing.
use mathlib.Core.Path.{sym, ap, ◌∙◌}
use lib.ListN.{get_or}
use borrow.Author.Tests.{eq-eqb, ne_eqb}
use Rattle.instruction.proofs.Ands.{not_first}
use Rattle.instruction.specs.First.{first_says}
use Rattle.instruction.specs.declared.first.FirstByte.{FirstByte}
use Rattle.targets.specs.Ways.{is_naming}
use Rattle.reach.specs.Mark.{traced}
use Rattle.arrivals.specs.Search.{may_name}
use Rattle.arrivals.proofs.naming.may_name.Goals as goal

pub returns-then-marks-at-eq-TRACED : goal.returns-then-marks-at-eq-TRACED
unfolding may_name first_says
returns-then-marks-at-eq-TRACED c =
    let a = c.args in
    rw (eq-eqb (get_or a.marks.now a.q 0) traced c.if-marks-at-eq-TRACED.true) (c.is_naming.ensures ∙ ap (λ (b : FirstByte). is_naming b.flow) c.read.ensures)

pub returns-else-marks-at-eq-TRACED : goal.returns-else-marks-at-eq-TRACED
unfolding may_name
returns-else-marks-at-eq-TRACED c =
    let e = ne_eqb (get_or c.args.marks.now c.args.q 0) traced c.if-marks-at-eq-TRACED.false in
    e ∙ sym (not_first _ _ e)
