-- The totals and the numbers of lines of a log fit a value, since they stop below.
-- Assumes nothing.
use Rattle.c_answers.proofs.Smalls.{replayed_small}
use Rattle.c_answers.proofs.LogBounds.{closed_fits}
use Rattle.c_answers.proofs.logs.replay_close.Goals as goal

pub into_reply-requires : goal.into_reply-requires
into_reply-requires c =
    let a = c.args in
    replayed_small c.close.result (rw c.close.ensures (closed_fits c.log_of.result))
