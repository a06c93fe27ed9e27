-- Each length fits a value, since it is that of a lent slice.
-- Assumes nothing.
use Rattle.std.proofs.Common.{arith}
use Rattle.c_answers.proofs.Smalls.{stepped_small}
use Rattle.c_answers.proofs.TraceBounds.{step_fits}
use Rattle.c_answers.proofs.tracing.step.Goals as goal

pub into_reply-requires : goal.into_reply-requires
into_reply-requires c =
    let a = c.args in
    stepped_small c.step.result
    (rw c.step.ensures.result_value
    (step_fits a.image.now a.marks.now (omega arith) (omega arith)
    a.mode a.p))
