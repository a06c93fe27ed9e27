-- What is not found of `wipe::clear`: the room afterwards.
-- Assumes nothing.
use Rattle.std.proofs.Common.{◌≤◌, length, arith, length-take-le}
use borrow.Author.Tests.{lt-ltb, le-ltb}
use Rattle.reach.specs.Mark.{cleared}
use Rattle.marks.specs.Clear.{wiped}
use Rattle.marks.proofs.wipe.clear.Goals as goal

pub returns-then-room-n-clause-room_after : goal.returns-then-room-n-clause-room_after
unfolding wiped
returns-then-room-n-clause-room_after c = rw (lt-ltb (length c.args.room.now) c.args.n c.if-room-n.true)

pub returns-clause-room_after : goal.returns-clause-room_after
unfolding wiped cleared
returns-clause-room_after c =
    let a = c.args in
    let e = c.fill.ensures.after (λ y h. h) in
    let fits : a.n ≤ length a.room.now = omega arith in
    rw (le-ltb (length a.room.now) a.n c.if-room-n.false, e, length-take-le a.n a.room.now fits)
