-- Each length fits a value, since it is that of a lent slice.
-- Assumes nothing.
use Rattle.std.proofs.Common.{arith}
use Rattle.c_answers.proofs.Smalls.{ran_small}
use Rattle.c_answers.proofs.TraceBounds.{run_fits}
use Rattle.c_answers.proofs.tracing.run.Goals as goal

pub into_reply-requires : goal.into_reply-requires
into_reply-requires c =
    let a = c.args in
    ran_small c.run.result
    (rw c.run.ensures.result_value
    (run_fits a.image.now a.marks.now (omega arith) (omega arith)
    a.mode a.order.now a.entries.now a.pins.now a.limit (omega arith)))
