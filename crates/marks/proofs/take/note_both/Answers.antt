-- What is not found of `take::note_both`: what became waiting, by whether each did.
-- Assumes nothing.
use Rattle.marks.proofs.OneNoted.{marks_two, fresh_two}
use Rattle.marks.proofs.take.note_both.Goals as goal

pub returns-in-true-true-clause-result_value : goal.returns-in-true-true-clause-result_value
returns-in-true-true-clause-result_value c =
    let a = c.args in
    let i = c.in-true-true in
    fresh_two a.n a.marks.now _ a.s a.t c.note_one.ensures.marks_after _ _ i.ensures.value i.ensures'.value

pub returns-in-true-true-clause-marks_after : goal.returns-in-true-true-clause-marks_after
returns-in-true-true-clause-marks_after c =
    let a = c.args in
    marks_two a.n a.marks.now _ a.s a.t c.note_one.ensures.marks_after _ c.note_one-2.ensures.marks_after

pub returns-in-true-false-clause-result_value : goal.returns-in-true-false-clause-result_value
returns-in-true-false-clause-result_value c =
    let a = c.args in
    let i = c.in-true-false in
    fresh_two a.n a.marks.now _ a.s a.t c.note_one.ensures.marks_after _ _ i.ensures.value i.ensures'.value

pub returns-in-true-false-clause-marks_after : goal.returns-in-true-false-clause-marks_after
returns-in-true-false-clause-marks_after c =
    let a = c.args in
    marks_two a.n a.marks.now _ a.s a.t c.note_one.ensures.marks_after _ c.note_one-2.ensures.marks_after

pub returns-in-false-true-clause-result_value : goal.returns-in-false-true-clause-result_value
returns-in-false-true-clause-result_value c =
    let a = c.args in
    let i = c.in-false-true in
    fresh_two a.n a.marks.now _ a.s a.t c.note_one.ensures.marks_after _ _ i.ensures.value i.ensures'.value

pub returns-in-false-true-clause-marks_after : goal.returns-in-false-true-clause-marks_after
returns-in-false-true-clause-marks_after c =
    let a = c.args in
    marks_two a.n a.marks.now _ a.s a.t c.note_one.ensures.marks_after _ c.note_one-2.ensures.marks_after

pub returns-in-false-false-clause-result_value : goal.returns-in-false-false-clause-result_value
returns-in-false-false-clause-result_value c =
    let a = c.args in
    let i = c.in-false-false in
    fresh_two a.n a.marks.now _ a.s a.t c.note_one.ensures.marks_after _ _ i.ensures.value i.ensures'.value

pub returns-in-false-false-clause-marks_after : goal.returns-in-false-false-clause-marks_after
returns-in-false-false-clause-marks_after c =
    let a = c.args in
    marks_two a.n a.marks.now _ a.s a.t c.note_one.ensures.marks_after _ c.note_one-2.ensures.marks_after
