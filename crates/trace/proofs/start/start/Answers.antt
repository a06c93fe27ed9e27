-- What is not found of `start::start`: which size refuses, or what is set.
-- Assumes nothing.
use Rattle.std.proofs.Common.{◌≤◌, length, arith}
use Rattle.std.proofs.lemmas.Result.{err_from_is_err_and}
use Rattle.reach.proofs.FreshCount.{fresh_le}
use Rattle.trace.proofs.Starting.{sizes, set}
use Rattle.trace.proofs.start.start.Goals as goal

pub returns-in_err-check_sizes-clause-result_value : goal.returns-in_err-check_sizes-clause-result_value
returns-in_err-check_sizes-clause-result_value c =
    let a = c.args in
    let p = err_from_is_err_and c.from_residual.result c.from_residual.ensures.1 in
    rw (p.1, p.2) (sizes a.image.now a.marks.now a.entries.now a.pins.now _ c.in_err-check_sizes.ensures.answer).0

pub returns-in_err-check_sizes-clause-marks_after : goal.returns-in_err-check_sizes-clause-marks_after
returns-in_err-check_sizes-clause-marks_after c =
    let a = c.args in
    (sizes a.image.now a.marks.now a.entries.now a.pins.now _ c.in_err-check_sizes.ensures.answer).1

pub overflow_cast-result : goal.overflow_cast-result
overflow_cast-result c =
    let n = length c.args.image.now in
    let s = c.in_ok-check_sizes.ensures.right in
    let h : n ≤ 65536 = s.0 in
    let l : n ≤ length c.begin.new.marks = omega (arith, s.1, c.begin.auto.marks) in
    record { fits = omega (arith, fresh_le n c.args.entries.now c.begin.new.marks l, c.note_entries.ensures.value) }

pub returns-clause-result_value : goal.returns-clause-result_value
returns-clause-result_value c =
    let a = c.args in
    let s = c.in_ok-check_sizes.ensures.right in
    let n = c.note_entries.ensures in
    (set a.image.now a.marks.now a.entries.now a.pins.now s.0 s.1 c.begin.new.marks c.begin.ensures _ _ (n.value, n.marks_after)).0

pub returns-clause-marks_after : goal.returns-clause-marks_after
returns-clause-marks_after c =
    let a = c.args in
    let s = c.in_ok-check_sizes.ensures.right in
    let n = c.note_entries.ensures in
    (set a.image.now a.marks.now a.entries.now a.pins.now s.0 s.1 c.begin.new.marks c.begin.ensures _ _ (n.value, n.marks_after)).1
