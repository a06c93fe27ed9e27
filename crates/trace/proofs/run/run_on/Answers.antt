-- What is not found of `run::run_on`: where the loop stands, and what is answered where it ends.
-- Assumes nothing.
use Rattle.std.proofs.Common.{◌<◌, ◌≤◌, get_or, arith}
use Rattle.reach.proofs.Begin.{stand_begin}
use Rattle.reach.proofs.Came.{came_finished, came_stopped, came_cut}
use Rattle.reach.proofs.Stand.{stand_tail, stand_inside, stand_room}
use Rattle.reach.proofs.StandTurn.{stand_turn}
use Rattle.trace.proofs.Running.{begun_of, ran_finished, ran_stopped, ran_cut}
use Rattle.trace.proofs.run.run_on.Goals as goal
use Rattle.trace.proofs.run.run_on.Goals.{then-loop-head-test+else-head-most, else-loop-head-test}

pub loop-head-init : goal.loop-head-init
loop-head-init c =
    let a = c.args in
    let B = begun_of a.mode _ _ _ _ _ _ _ _ _ c.requires c.begin.ensures c.put_entries-tail.ensures in
    stand_begin B.base B.room B.noted _

pub bounds-order-head : goal.bounds-order-head
bounds-order-head c =
    let a = c.args in
    let B = begun_of a.mode _ _ _ _ _ _ _ _ _ c.requires c.begin.ensures c.put_entries-tail.ensures in
    let l = c.loop-head in
    let h : l.head < l.tail = c.loop-head-test.true in
    omega (arith, stand_tail B.marks_fit B.order_fits l.invariant, B.order_fits, l.invariant.order_long)

pub take_next-requires-clause-p_in_bounds : goal.take_next-requires-clause-p_in_bounds
take_next-requires-clause-p_in_bounds c =
    let a = c.args in
    let B = begun_of a.mode _ _ _ _ _ _ _ _ _ c.requires c.begin.ensures c.put_entries-tail.ensures in
    let l = c.loop-head in
    (stand_inside B.marks_fit B.order_fits l.invariant c.loop-head-test.true, B.small)

pub take_next-requires-clause-p_in_bounds_2 : goal.take_next-requires-clause-p_in_bounds_2
take_next-requires-clause-p_in_bounds_2 c =
    let a = c.args in
    let B = begun_of a.mode _ _ _ _ _ _ _ _ _ c.requires c.begin.ensures c.put_entries-tail.ensures in
    let l = c.loop-head in
    stand_room B.marks_fit B.order_fits l.invariant c.loop-head-test.true

pub returns-in-Err : goal.returns-in-Err
returns-in-Err c =
    let a = c.args in
    let B = begun_of a.mode _ _ _ _ _ _ _ _ _ c.requires c.begin.ensures c.put_entries-tail.ensures in
    let l = c.loop-head in
    let o = c.take_next.ensures.off _ c.in-Err.is in
    (ran_cut a.mode a.image.now a.marks.now a.order.now a.entries.now a.pins.now a.limit B.base l.marks l.order l.tail l.head (get_or l.order l.head 0) _ o.1
    (came_cut B.base B.room B.noted l.invariant c.loop-head-test.true c.if-head-most.true o.0) _ _ o.2 o.3)

pub loop-head-smaller : goal.loop-head-smaller
loop-head-smaller c =
    let a = c.args in
    let B = begun_of a.mode _ _ _ _ _ _ _ _ _ c.requires c.begin.ensures c.put_entries-tail.ensures in
    let l = c.loop-head in
    let h : l.head < l.tail = c.loop-head-test.true in
    omega (arith, stand_tail B.marks_fit B.order_fits l.invariant)

pub loop-head-preserved : goal.loop-head-preserved
loop-head-preserved c =
    let a = c.args in
    let B = begun_of a.mode _ _ _ _ _ _ _ _ _ c.requires c.begin.ensures c.put_entries-tail.ensures in
    let l = c.loop-head in
    let o = c.take_next.ensures.on _ c.in-Ok.is in
    stand_turn B.marks_fit B.order_fits l.invariant c.loop-head-test.true c.if-head-most.true o.0 o.1

pub overflow_cast-counts-2 : goal.overflow_cast-counts-2
overflow_cast-counts-2 c =
    let a = c.args in
    let B = begun_of a.mode _ _ _ _ _ _ _ _ _ c.requires c.begin.ensures c.put_entries-tail.ensures in
    let l = c.loop-head in
    record { fits = omega (arith, stand_tail B.marks_fit B.order_fits l.invariant, B.small) }

pub returns-then-head-tail : goal.returns-then-head-tail
returns-then-head-tail c =
    let a = c.args in
    let B = begun_of a.mode _ _ _ _ _ _ _ _ _ c.requires c.begin.ensures c.put_entries-tail.ensures in
    let l = c.loop-head in
    let h : l.head < l.tail = c.if-head-tail.true in
    ran_stopped a.mode a.image.now a.marks.now a.order.now a.entries.now a.pins.now a.limit B.base l.marks l.order l.tail l.head
    (came_stopped B.base B.room B.noted l.invariant h (elim c.loop-head-test.branch [
      | then-loop-head-test+else-head-most w ↦ w.if-head-most.false
      | else-loop-head-test w ↦ absurd (let k : l.tail ≤ l.head = w.loop-head-test.false in omega arith)
    ]))

pub returns : goal.returns
returns c =
    let a = c.args in
    let B = begun_of a.mode _ _ _ _ _ _ _ _ _ c.requires c.begin.ensures c.put_entries-tail.ensures in
    let l = c.loop-head in
    ran_finished a.mode a.image.now a.marks.now a.order.now a.entries.now a.pins.now a.limit B.base l.marks l.order l.tail l.head (came_finished B.base B.room B.noted l.invariant c.if-head-tail.false)
