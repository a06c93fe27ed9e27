-- An image run in rooms as long as it is: the figures of the marks that the run left, or an instruction cut off.
-- Assumes nothing.
use Rattle.std.proofs.Common.{◌≡◌, ℕ, ◌≤◌, List, [], ◌++◌, length, take, drop, arith, sym, ap, ◌∙◌, length-append}
use lib.ListN.{length-replicate}
use lib.Seq.{take_at}
use Rattle.list_text.specs.Output.{lent_room}
use Rattle.report_text.specs.Figures.{figures}
use Rattle.report_text.proofs.Runs.{lent_as, told_run, cut_run, counted_run, sound_run}
use Rattle.report_text.proofs.image.trace_image.Goals as goal

-- so many are lent
lent_long : (image room : List ℕ) → take (length image) room ≡ lent_room image → length image ≡ length (take (length image) room)
lent_long image room e = sym (ap length e ∙ length-replicate (length image) 0)

pub slice_bounds-run-end : goal.slice_bounds-run-end
slice_bounds-run-end c = lent_long c.args.image.now _ (lent_as c.args.image.now c.bytes-marks.result 16384 c.bytes-marks.ensures c.requires)

pub slice_bounds-run-end-2 : goal.slice_bounds-run-end-2
slice_bounds-run-end-2 c = lent_long c.args.image.now _ (lent_as c.args.image.now c.positions-order.result 16384 c.positions-order.ensures c.requires)

-- what the run left, lent again
again : (image room new : List ℕ) → take (length image) room ≡ lent_room image → length new ≡ length (take (length image) room)
    → (length new ≡ length image) × (take (length image) (new ++ drop (length image) room) ≡ new)
again image room new e f =
    let n : length new ≡ length image = f ∙ sym (lent_long image room e) in
    (n, take_at new (drop (length image) room) (length image) n)

pub slice_bounds-marks-end-in-Ok : goal.slice_bounds-marks-end-in-Ok
slice_bounds-marks-end-in-Ok c =
    let i = c.args.image.now in
    let room = c.bytes-marks.result in
    let k = again i room c.run.new.marks (lent_as i room 16384 c.bytes-marks.ensures c.requires) c.run.auto.marks in
    omega (arith, k.0, length-append c.run.new.marks (drop (length i) room))

pub slice_bounds-measure-end : goal.slice_bounds-measure-end
slice_bounds-measure-end c =
    let i = c.args.image.now in
    let room = c.bytes-marks.result in
    let k = again i room c.run.new.marks (lent_as i room 16384 c.bytes-marks.ensures c.requires) c.run.auto.marks in
    sym (ap length k.1 ∙ k.0)

pub measure-requires : goal.measure-requires
measure-requires c =
    let a = c.args in
    let i = a.image.now in
    let room = c.bytes-marks.result in
    let m = lent_as i room 16384 c.bytes-marks.ensures c.requires in
    let o = lent_as i c.positions-order.result 16384 c.positions-order.ensures c.requires in
    let k = again i room c.run.new.marks m c.run.auto.marks in
    let t = told_run c.in-Ok.ran in
    (c.requires, sound_run i a.entries.now _ _ m o t.0 (t.1.0 ∙ c.in-Ok.ensures.result_value) _ (k.1 ∙ c.run.ensures.marks_after) c.requires (ap length k.1 ∙ c.run.auto.marks))

pub returns-in-Ok : goal.returns-in-Ok
returns-in-Ok c =
    let a = c.args in
    let i = a.image.now in
    let room = c.bytes-marks.result in
    let m = lent_as i room 16384 c.bytes-marks.ensures c.requires in
    let o = lent_as i c.positions-order.result 16384 c.positions-order.ensures c.requires in
    let k = again i room c.run.new.marks m c.run.auto.marks in
    let t = told_run c.in-Ok.ran in
    let s = take (length i) (c.run.new.marks ++ drop (length i) room) in
    counted_run i a.entries.now _ _ m o t.0 (t.1.0 ∙ c.in-Ok.ensures.result_value) s (k.1 ∙ c.run.ensures.marks_after) _
    (c.measure.ensures ∙ ap (λ (n : ℕ). figures i s n) (c.steps_of.ensures ∙ sym t.1.1))

pub returns-in-Err : goal.returns-in-Err
returns-in-Err c =
    let a = c.args in
    let i = a.image.now in
    let m = lent_as i c.bytes-marks.result 16384 c.bytes-marks.ensures c.requires in
    let o = lent_as i c.positions-order.result 16384 c.positions-order.ensures c.requires in
    cut_run i a.entries.now _ _ m o c.requires c.in-Err.field-0 c.in-Err.ensures.result_value
