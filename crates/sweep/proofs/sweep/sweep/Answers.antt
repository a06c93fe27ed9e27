-- What is not found of `sweep::sweep`: which size refuses, or what the sweeps come to.
-- Assumes nothing.
use Rattle.std.proofs.lemmas.Result.{err_from_is_err_and}
use Rattle.sweep.proofs.Sized.{sizes, small, begun_long, begun_count, swept}
use Rattle.sweep.proofs.sweep.sweep.Goals as goal

pub returns-in_err-start-clause-result_value : goal.returns-in_err-start-clause-result_value
returns-in_err-start-clause-result_value c =
    let a = c.args in
    let p = err_from_is_err_and c.from_residual.result c.from_residual.ensures.1 in
    rw (p.1, p.2) (sizes a.mode a.image.now a.marks.now a.entries.now a.pins.now _ _ c.in_err-start.ensures.result_value c.start.ensures.marks_after).0

pub returns-in_err-start-clause-marks_after : goal.returns-in_err-start-clause-marks_after
returns-in_err-start-clause-marks_after c =
    let a = c.args in
    (sizes a.mode a.image.now a.marks.now a.entries.now a.pins.now _ _ c.in_err-start.ensures.result_value c.start.ensures.marks_after).1

pub sweep_on-requires : goal.sweep_on-requires
sweep_on-requires c =
    let a = c.args in
    let s = c.in_ok-start.ensures.result_value in
    let m = c.start.ensures.marks_after in
    (small a.mode a.image.now a.marks.now a.entries.now a.pins.now _ s, rw m (begun_long a.mode a.image.now a.marks.now a.entries.now a.pins.now _ s), rw m (begun_count a.mode a.image.now a.marks.now a.entries.now a.pins.now _ s))

pub returns-clause-result_value : goal.returns-clause-result_value
returns-clause-result_value c =
    let a = c.args in
    let o = c.sweep_on.ensures in
    (swept a.mode a.image.now a.marks.now a.entries.now a.pins.now _ c.in_ok-start.ensures.result_value c.sweep_on.result _ _ c.start.ensures.marks_after (o.result_value, o.marks_after)).0

pub returns-clause-marks_after : goal.returns-clause-marks_after
returns-clause-marks_after c =
    let a = c.args in
    let o = c.sweep_on.ensures in
    (swept a.mode a.image.now a.marks.now a.entries.now a.pins.now _ c.in_ok-start.ensures.result_value c.sweep_on.result _ _ c.start.ensures.marks_after (o.result_value, o.marks_after)).1
