-- What is not found of `step::step`: which refusal speaks, or what the step comes to.
-- Assumes nothing.
use Rattle.std.proofs.lemmas.Result.{err_from_is_err_and}
use Rattle.targets.proofs.WaysAre.{goes_whole}
use Rattle.trace.proofs.Stepping.{inner_ways}
use Rattle.trace.proofs.StepAnswers.{sizes, outside, damaged_mark, not_waiting, not_whole, whole}
use Rattle.trace.proofs.step.step.Goals as goal

pub returns-in_err-check_sizes-clause-result_value : goal.returns-in_err-check_sizes-clause-result_value
returns-in_err-check_sizes-clause-result_value c =
    let a = c.args in
    let p = err_from_is_err_and c.from_residual.result c.from_residual.ensures.1 in
    rw (p.1, p.2) (sizes a.mode a.image.now a.marks.now a.p _ c.in_err-check_sizes.ensures.answer).0

pub returns-in_err-check_sizes-clause-marks_after : goal.returns-in_err-check_sizes-clause-marks_after
returns-in_err-check_sizes-clause-marks_after c =
    let a = c.args in
    (sizes a.mode a.image.now a.marks.now a.p _ c.in_err-check_sizes.ensures.answer).1

pub returns-then-image-at-clause-result_value : goal.returns-then-image-at-clause-result_value
returns-then-image-at-clause-result_value c =
    let a = c.args in
    let s = c.in_ok-check_sizes.ensures.right in
    (outside a.mode a.image.now a.marks.now a.p s.0 s.1 c.if-image-at.true).0

pub returns-then-image-at-clause-marks_after : goal.returns-then-image-at-clause-marks_after
returns-then-image-at-clause-marks_after c =
    let a = c.args in
    let s = c.in_ok-check_sizes.ensures.right in
    (outside a.mode a.image.now a.marks.now a.p s.0 s.1 c.if-image-at.true).1

pub returns-then-mark-gt-HIGHEST-clause-result_value : goal.returns-then-mark-gt-HIGHEST-clause-result_value
returns-then-mark-gt-HIGHEST-clause-result_value c =
    let a = c.args in
    let s = c.in_ok-check_sizes.ensures.right in
    (damaged_mark a.mode a.image.now a.marks.now a.p s.0 s.1 c.if-image-at.false c.if-mark-gt-HIGHEST.true).0

pub returns-then-mark-gt-HIGHEST-clause-marks_after : goal.returns-then-mark-gt-HIGHEST-clause-marks_after
returns-then-mark-gt-HIGHEST-clause-marks_after c =
    let a = c.args in
    let s = c.in_ok-check_sizes.ensures.right in
    (damaged_mark a.mode a.image.now a.marks.now a.p s.0 s.1 c.if-image-at.false c.if-mark-gt-HIGHEST.true).1

pub returns-then-mark-ne-WAITING-clause-result_value : goal.returns-then-mark-ne-WAITING-clause-result_value
returns-then-mark-ne-WAITING-clause-result_value c =
    let a = c.args in
    let s = c.in_ok-check_sizes.ensures.right in
    (not_waiting a.mode a.image.now a.marks.now a.p s.0 s.1 c.if-image-at.false c.if-mark-gt-HIGHEST.false c.if-mark-ne-WAITING.true).0

pub returns-then-mark-ne-WAITING-clause-marks_after : goal.returns-then-mark-ne-WAITING-clause-marks_after
returns-then-mark-ne-WAITING-clause-marks_after c =
    let a = c.args in
    let s = c.in_ok-check_sizes.ensures.right in
    (not_waiting a.mode a.image.now a.marks.now a.p s.0 s.1 c.if-image-at.false c.if-mark-gt-HIGHEST.false c.if-mark-ne-WAITING.true).1

pub returns-in_err-to-clause-result_value : goal.returns-in_err-to-clause-result_value
returns-in_err-to-clause-result_value c =
    let a = c.args in
    let s = c.in_ok-check_sizes.ensures.right in
    let p = err_from_is_err_and c.from_residual-in_err-to.result c.from_residual-in_err-to.ensures.1 in
    rw (p.1, p.2) (not_whole a.mode a.image.now a.marks.now a.p s.0 s.1 c.if-image-at.false c.if-mark-ne-WAITING.false _ c.in_err-to.ensures).0

pub returns-in_err-to-clause-marks_after : goal.returns-in_err-to-clause-marks_after
returns-in_err-to-clause-marks_after c =
    let a = c.args in
    let s = c.in_ok-check_sizes.ensures.right in
    (not_whole a.mode a.image.now a.marks.now a.p s.0 s.1 c.if-image-at.false c.if-mark-ne-WAITING.false _ c.in_err-to.ensures).1

pub returns-clause-result_value : goal.returns-clause-result_value
returns-clause-result_value c =
    let a = c.args in
    let s = c.in_ok-check_sizes.ensures.right in
    let w = goes_whole a.mode a.image.now a.p c.if-image-at.false s.0 c.in_ok-to.to c.in_ok-to.ensures in
    let n = c.step_whole.ensures in
    (whole a.mode a.image.now a.marks.now a.p s.0 s.1 c.if-image-at.false c.if-mark-ne-WAITING.false w.0 _ _
    (inner_ways a.mode a.image.now _ a.marks.now a.p _ _ w.1 (n.result_value, n.marks_after))).0

pub returns-clause-marks_after : goal.returns-clause-marks_after
returns-clause-marks_after c =
    let a = c.args in
    let s = c.in_ok-check_sizes.ensures.right in
    let w = goes_whole a.mode a.image.now a.p c.if-image-at.false s.0 c.in_ok-to.to c.in_ok-to.ensures in
    let n = c.step_whole.ensures in
    (whole a.mode a.image.now a.marks.now a.p s.0 s.1 c.if-image-at.false c.if-mark-ne-WAITING.false w.0 _ _
    (inner_ways a.mode a.image.now _ a.marks.now a.p _ _ w.1 (n.result_value, n.marks_after))).1
