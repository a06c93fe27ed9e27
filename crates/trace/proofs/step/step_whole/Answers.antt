-- What is not found of `step::step_whole`: damage found, or the position taken up.
-- Assumes nothing.
use Rattle.std.proofs.Common.{◌∙◌, sym, ap}
use Rattle.std.proofs.lemmas.Result.{err_from_is_err_and}
use Rattle.marks.specs.Taken.{going_to}
use Rattle.targets.specs.Ways.{places_in}
use Rattle.trace.specs.Step.{damage_of}
use Rattle.trace.proofs.Mapped.{mapped_err, mapped_ok}
use Rattle.trace.proofs.Stepping.{damaged_said, took_said}
use Rattle.trace.proofs.step.step_whole.Goals as goal

pub returns-in_err-map_err-clause-result_value : goal.returns-in_err-map_err-clause-result_value
returns-in_err-map_err-clause-result_value c =
    let a = c.args in
    let m = mapped_err _ c.check.result c.map_err.result _ c.map_err.ensures.cases c.in_err-map_err.was in
    let r = err_from_is_err_and c.from_residual.result c.from_residual.ensures.1 in
    rw (r.1, r.2, m.2) (damaged_said (going_to a.image.now (places_in a.to)) a.image.now a.marks.now a.p m.0 (sym (ap damage_of m.1) ∙ c.check.ensures)).0

pub returns-in_err-map_err-clause-marks_after : goal.returns-in_err-map_err-clause-marks_after
returns-in_err-map_err-clause-marks_after c =
    let a = c.args in
    let m = mapped_err _ c.check.result c.map_err.result _ c.map_err.ensures.cases c.in_err-map_err.was in
    (damaged_said (going_to a.image.now (places_in a.to)) a.image.now a.marks.now a.p m.0 (sym (ap damage_of m.1) ∙ c.check.ensures)).1

pub returns-clause-result_value : goal.returns-clause-result_value
returns-clause-result_value c =
    let a = c.args in
    let m = mapped_ok _ c.check.result c.map_err.result _ c.map_err.ensures.cases c.in_ok-map_err.was in
    (took_said (going_to a.image.now (places_in a.to)) a.image.now a.marks.now a.p (sym (ap damage_of m) ∙ c.check.ensures) c.take_up-taken.result _
    c.take_up-taken.ensures c.count.result c.count.ensures).0

pub returns-clause-marks_after : goal.returns-clause-marks_after
returns-clause-marks_after c =
    let a = c.args in
    let m = mapped_ok _ c.check.result c.map_err.result _ c.map_err.ensures.cases c.in_ok-map_err.was in
    (took_said (going_to a.image.now (places_in a.to)) a.image.now a.marks.now a.p (sym (ap damage_of m) ∙ c.check.ensures) c.take_up-taken.result _
    c.take_up-taken.ensures c.count.result c.count.ensures).1
