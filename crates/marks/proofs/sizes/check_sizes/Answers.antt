-- What is not found of `sizes::check_sizes`: which refusal speaks.
-- Assumes nothing.
use mathlib.Core.Path.{sym, ◌∙◌}
use mathlib.Core.List.{[]}
use Rattle.instruction.proofs.Judging.{done}
use Rattle.marks.proofs.Sizing.{long_image, short_marks, right_sizes}
use Rattle.marks.proofs.sizes.check_sizes.Goals as goal

pub returns-then-n-gt-LIMIT-clause-answer : goal.returns-then-n-gt-LIMIT-clause-answer
returns-then-n-gt-LIMIT-clause-answer c = sym (long_image c.args.image.now c.args.marks.now [] tt c.if-n-gt-LIMIT.true)

pub returns-then-marks-n-clause-answer : goal.returns-then-marks-n-clause-answer
returns-then-marks-n-clause-answer c =
    let a = c.args in
    sym (short_marks a.image.now a.marks.now [] tt c.if-n-gt-LIMIT.false c.if-marks-n.true)

pub returns-clause-answer : goal.returns-clause-answer
returns-clause-answer c =
    let a = c.args in
    sym (right_sizes a.image.now a.marks.now [] tt c.if-n-gt-LIMIT.false c.if-marks-n.false ∙ done tt)
