-- The lines of a lent text, and the lengths of lent slices, fit a value.
-- Assumes nothing.
use Rattle.std.proofs.Common.{arith}
use Rattle.c_answers.proofs.Smalls.{restored_small}
use Rattle.c_answers.proofs.BackBounds.{back_fits}
use Rattle.c_answers.proofs.back.read_back.Goals as goal

pub into_reply-requires : goal.into_reply-requires
into_reply-requires c =
    let a = c.args in
    restored_small c.read_back.result
    (rw c.read_back.ensures.result_value
    (back_fits a.mode a.text.now a.length a.image.now a.marks.now (omega arith) (omega arith) (omega arith)))
