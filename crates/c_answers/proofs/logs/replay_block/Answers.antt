-- The totals and the numbers of lines of a log fit a value, since they stop below.
-- Assumes nothing.
use Rattle.std.proofs.Common.{arith}
use Rattle.c_answers.proofs.Smalls.{replayed_small}
use Rattle.c_answers.proofs.LogBounds.{block_fits}
use Rattle.c_answers.proofs.logs.replay_block.Goals as goal

pub into_reply-requires : goal.into_reply-requires
into_reply-requires c =
    let a = c.args in
    replayed_small c.take_block-fed.result.answer
    (rw c.take_block-fed.ensures.answer_value
    (block_fits a.image.now a.marks.now (omega arith) (omega arith) a.counts.now a.mode a.text.now a.entries.now c.log_of-log.result))
