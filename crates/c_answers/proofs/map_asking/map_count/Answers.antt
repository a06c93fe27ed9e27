-- Each length fits a value, since it is that of a lent slice.
-- Assumes nothing.
use Rattle.std.proofs.Common.{arith}
use Rattle.map.specs.Ask.{count_answer}
use Rattle.c_answers.proofs.Smalls.{asked_small}
use Rattle.c_answers.proofs.MapBounds.{ask_fits}
use Rattle.c_answers.proofs.map_asking.map_count.Goals as goal

pub into_reply-requires : goal.into_reply-requires
unfolding count_answer
into_reply-requires c =
    let a = c.args in
    asked_small c.count.result (rw c.count.ensures (ask_fits a.words.now a.length _ a.begin _ (omega arith) (omega arith)))
