-- Each length fits a value, since it is that of a lent slice.
-- Assumes nothing.
use Rattle.std.proofs.Common.{arith}
use Rattle.c_answers.proofs.Smalls.{swept_small}
use Rattle.c_answers.proofs.TraceBounds.{sweep_fits}
use Rattle.c_answers.proofs.tracing.sweep.Goals as goal

pub into_reply-requires : goal.into_reply-requires
into_reply-requires c =
    let a = c.args in
    swept_small c.sweep.result
    (rw c.sweep.ensures.result_value
    (sweep_fits a.image.now a.marks.now (omega arith) (omega arith)
    a.mode a.entries.now a.pins.now))
