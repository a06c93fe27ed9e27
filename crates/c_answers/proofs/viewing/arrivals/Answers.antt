-- What is shown is no longer than an image, of which every lent slice fits a value.
-- Assumes nothing.
use Rattle.std.proofs.Common.{arith}
use Rattle.arrivals.proofs.Arriving.{few}
use Rattle.c_answers.proofs.Smalls.{viewed_small}
use Rattle.c_answers.proofs.Shown.{view_fits}
use Rattle.c_answers.proofs.viewing.arrivals.Goals as goal

pub into_reply-requires : goal.into_reply-requires
into_reply-requires c =
    let a = c.args in
    viewed_small c.arrivals.result
    (rw c.arrivals.ensures.result_value
    (view_fits a.image.now a.marks.now (omega arith) (omega arith) _ a.room.now (omega (arith, few a.mode a.image.now a.marks.now a.p))))
