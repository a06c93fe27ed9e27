-- What is not found of `run::run`: which refusal speaks, or what the run comes to.
-- Assumes nothing.
use Rattle.std.proofs.lemmas.Result.{err_from_is_err_and}
use Rattle.trace.proofs.RunAnswers.{sizes, short_order, ran}
use Rattle.trace.proofs.run.run.Goals as goal

pub returns-in_err-check_sizes-clause-result_value : goal.returns-in_err-check_sizes-clause-result_value
returns-in_err-check_sizes-clause-result_value c =
    let a = c.args in
    let p = err_from_is_err_and c.from_residual.result c.from_residual.ensures.1 in
    rw (p.1, p.2) (sizes a.mode a.image.now a.marks.now a.order.now a.entries.now a.pins.now a.limit _ c.in_err-check_sizes.ensures.answer).0

pub returns-in_err-check_sizes-clause-marks_after : goal.returns-in_err-check_sizes-clause-marks_after
returns-in_err-check_sizes-clause-marks_after c =
    let a = c.args in
    (sizes a.mode a.image.now a.marks.now a.order.now a.entries.now a.pins.now a.limit _ c.in_err-check_sizes.ensures.answer).1

pub returns-in_err-check_sizes-clause-order_after : goal.returns-in_err-check_sizes-clause-order_after
returns-in_err-check_sizes-clause-order_after c =
    let a = c.args in
    (sizes a.mode a.image.now a.marks.now a.order.now a.entries.now a.pins.now a.limit _ c.in_err-check_sizes.ensures.answer).2

pub returns-then-order-image-clause-result_value : goal.returns-then-order-image-clause-result_value
returns-then-order-image-clause-result_value c =
    let a = c.args in
    let s = c.in_ok-check_sizes.ensures.right in
    (short_order a.mode a.image.now a.marks.now a.order.now a.entries.now a.pins.now a.limit s.0 s.1 c.if-order-image.true).0

pub returns-then-order-image-clause-marks_after : goal.returns-then-order-image-clause-marks_after
returns-then-order-image-clause-marks_after c =
    let a = c.args in
    let s = c.in_ok-check_sizes.ensures.right in
    (short_order a.mode a.image.now a.marks.now a.order.now a.entries.now a.pins.now a.limit s.0 s.1 c.if-order-image.true).1

pub returns-then-order-image-clause-order_after : goal.returns-then-order-image-clause-order_after
returns-then-order-image-clause-order_after c =
    let a = c.args in
    let s = c.in_ok-check_sizes.ensures.right in
    (short_order a.mode a.image.now a.marks.now a.order.now a.entries.now a.pins.now a.limit s.0 s.1 c.if-order-image.true).2

pub returns-clause-result_value : goal.returns-clause-result_value
returns-clause-result_value c =
    let a = c.args in
    let s = c.in_ok-check_sizes.ensures.right in
    (ran a.mode a.image.now a.marks.now a.order.now a.entries.now a.pins.now a.limit s.0 s.1 c.if-order-image.false _ _ _ c.run_on.ensures).0

pub returns-clause-marks_after : goal.returns-clause-marks_after
returns-clause-marks_after c =
    let a = c.args in
    let s = c.in_ok-check_sizes.ensures.right in
    (ran a.mode a.image.now a.marks.now a.order.now a.entries.now a.pins.now a.limit s.0 s.1 c.if-order-image.false _ _ _ c.run_on.ensures).1

pub returns-clause-order_after : goal.returns-clause-order_after
returns-clause-order_after c =
    let a = c.args in
    let s = c.in_ok-check_sizes.ensures.right in
    (ran a.mode a.image.now a.marks.now a.order.now a.entries.now a.pins.now a.limit s.0 s.1 c.if-order-image.false _ _ _ c.run_on.ensures).2
