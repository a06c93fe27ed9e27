-- What is not found of `queue::put_entries`: room for an entry more, and that it is noted.
-- Assumes nothing.
use Rattle.std.proofs.Common.{length, arith}
use Rattle.reach.proofs.Noted.{noted_nil}
use Rattle.reach.proofs.NotedMore.{noted_next, noted_room}
use Rattle.trace.proofs.Queueing.{noted_put, room_for}
use Rattle.trace.proofs.queue.put_entries.Goals as goal

pub loop-t-init : goal.loop-t-init
loop-t-init c = noted_nil

pub put-tail-requires : goal.put-tail-requires
put-tail-requires c =
    let a = c.args in
    let l = c.loop-t in
    room_for l.tail (length l.order) _ _ c.note_place-noted.ensures.result_value
    (noted_room a.entries.now l.t-index l.invariant c.requires.n_in_bounds (omega arith) c.loop-t-test.true)

pub loop-t-preserved : goal.loop-t-preserved
loop-t-preserved c =
    let l = c.loop-t in
    let n = c.note_place-noted.ensures in
    let p = c.put-tail.ensures in
    noted_next c.args.entries.now l.t-index l.invariant c.loop-t-test.true
    (noted_put l.order l.tail _ _ _ (p.value, p.order_after) (n.result_value, n.marks_after))
