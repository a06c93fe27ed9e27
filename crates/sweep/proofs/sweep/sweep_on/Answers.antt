-- What is not found of `sweep::sweep_on`: where the sweeps stand, and what they come to.
-- Assumes nothing.
use Rattle.std.proofs.Common.{◌≡◌, ◌+◌, length, arith}
use Rattle.marks.specs.Tracer.{tracer_of}
use Rattle.sweep.proofs.Inside.{whole_image}
use Rattle.sweep.proofs.Sized.{told}
use Rattle.sweep.proofs.Sweeping.{sweeping_start, all_swept, last_swept, few_steps, sweeping_next}
use Rattle.sweep.proofs.sweep.sweep_on.Goals as goal

pub loop-sweeps-init : goal.loop-sweeps-init
loop-sweeps-init c =
    let a = c.args in (
      sweeping_start (tracer_of a.mode a.image.now) a.marks.now c.requires.2,
      omega arith,
      omega arith,
      whole_image a.mode a.image.now a.marks.now (λ n. (c.type_inv.image n).fits),
    )

pub returns-then-way-eq0-clause-result_value : goal.returns-then-way-eq0-clause-result_value
returns-then-way-eq0-clause-result_value c =
    let a = c.args in
    let l = c.loop-sweeps in
    let o = c.sweep_once-way.ensures in
    (told a.mode a.image.now a.marks.now _ _ _
    (last_swept (tracer_of a.mode a.image.now) a.marks.now l.marks l.sweeps l.steps l.invariant.0 (omega arith) _ _ (o.taken_is, o.marks_are) c.if-way-eq0.true)).0

pub returns-then-way-eq0-clause-marks_after : goal.returns-then-way-eq0-clause-marks_after
returns-then-way-eq0-clause-marks_after c =
    let a = c.args in
    let l = c.loop-sweeps in
    let o = c.sweep_once-way.ensures in
    (told a.mode a.image.now a.marks.now _ _ _
    (last_swept (tracer_of a.mode a.image.now) a.marks.now l.marks l.sweeps l.steps l.invariant.0 (omega arith) _ _ (o.taken_is, o.marks_are) c.if-way-eq0.true)).1

pub overflow_add-steps : goal.overflow_add-steps
overflow_add-steps c =
    let a = c.args in
    let l = c.loop-sweeps in
    let o = c.sweep_once-way.ensures in
    record {
      fits = omega (
        arith,
        c.requires.0,
        few_steps (tracer_of a.mode a.image.now) a.marks.now l.marks l.sweeps l.steps l.invariant.0 (omega arith) _ _ (o.taken_is, o.marks_are) c.requires.1,
      );
    }

pub loop-sweeps-preserved : goal.loop-sweeps-preserved
loop-sweeps-preserved c =
    let a = c.args in
    let l = c.loop-sweeps in
    let o = c.sweep_once-way.ensures in (
      sweeping_next (tracer_of a.mode a.image.now) a.marks.now l.marks l.sweeps l.steps l.invariant.0 (omega arith) _ _ (o.taken_is, o.marks_are) c.requires.1
          c.if-way-eq0.false c.sweep_once-way.auto.marks,
      o.bounds.1,
      o.bounds.2,
      o.between,
    )

pub returns-clause-result_value : goal.returns-clause-result_value
returns-clause-result_value c =
    let a = c.args in
    let l = c.loop-sweeps in
    let e : l.sweeps ≡ length a.image.now + 1 = omega arith in
    rw (← e) (told a.mode a.image.now a.marks.now _ _ _ (all_swept (tracer_of a.mode a.image.now) a.marks.now l.marks l.sweeps l.steps l.invariant.0 (omega arith))).0

pub returns-clause-marks_after : goal.returns-clause-marks_after
returns-clause-marks_after c =
    let a = c.args in
    let l = c.loop-sweeps in
    (told a.mode a.image.now a.marks.now _ _ _ (all_swept (tracer_of a.mode a.image.now) a.marks.now l.marks l.sweeps l.steps l.invariant.0 (omega arith))).1
