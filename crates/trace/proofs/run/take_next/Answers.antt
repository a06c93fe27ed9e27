-- What is not found of `run::take_next`: the position taken up, or its instruction cut off.
-- Assumes nothing.
use Rattle.std.proofs.Common.{length}
use Rattle.marks.proofs.TakeUp.{by_ways}
use Rattle.targets.proofs.WaysAre.{goes_whole, goes_cut, never_outside}
use Rattle.trace.proofs.Queueing.{taken_put, room_for}
use Rattle.trace.proofs.Turns.{turned_on, turned_off}
use Rattle.trace.proofs.run.take_next.Goals as goal

pub put-requires : goal.put-requires
put-requires c =
    let a = c.args in
    let s = c.requires.p_in_bounds in
    let w = goes_whole a.mode a.image.now a.p s.0 s.1 c.in-Ok.to c.in-Ok.ensures in
    let t = by_ways a.mode a.image.now _ a.marks.now a.p _ _ w.1 c.take_up-taken.ensures in
    room_for a.tail (length a.order.now) _ _ t.noted_are c.requires.p_in_bounds_2

pub returns-in-Ok : goal.returns-in-Ok
returns-in-Ok c =
    let a = c.args in
    let s = c.requires.p_in_bounds in
    let w = goes_whole a.mode a.image.now a.p s.0 s.1 c.in-Ok.to c.in-Ok.ensures in
    let t = by_ways a.mode a.image.now _ a.marks.now a.p _ _ w.1 c.take_up-taken.ensures in
    let q = c.put.ensures in
    turned_on a.mode a.image.now a.marks.now a.order.now a.p a.tail c.put.result _ _ w.0
    (taken_put a.mode a.image.now a.marks.now a.p c.take_up-taken.result _ a.order.now a.tail _ c.put.result t (q.value, q.order_after))

pub returns-in-Err-Cut : goal.returns-in-Err-Cut
returns-in-Err-Cut c =
    let a = c.args in
    let s = c.requires.p_in_bounds in
    turned_off a.mode a.image.now a.marks.now a.order.now a.p a.tail c.in-Err-Cut.c
    (goes_cut a.mode a.image.now a.p s.0 s.1 c.in-Err-Cut.c (rw c.in-Err-Cut.field-0-is at c.in-Err-Cut.ensures))

pub returns-in-Err-Outside : goal.returns-in-Err-Outside
returns-in-Err-Outside c =
    let a = c.args in
    let s = c.requires.p_in_bounds in
    absurd (never_outside a.mode a.image.now a.p s.0 s.1 (rw c.in-Err-Outside.field-0-is at c.in-Err-Outside.ensures))
