-- Each length fits a value, since it is that of a lent slice.
-- Assumes nothing.
use Rattle.std.proofs.Common.{arith}
use Rattle.c_answers.proofs.Smalls.{started_small}
use Rattle.c_answers.proofs.TraceBounds.{start_fits}
use Rattle.c_answers.proofs.tracing.start.Goals as goal

pub into_reply-requires : goal.into_reply-requires
into_reply-requires c =
    let a = c.args in
    started_small c.start.result
    (rw c.start.ensures.result_value
    (start_fits a.image.now a.marks.now (omega arith) (omega arith)
    a.entries.now a.pins.now))
