-- Each length fits a value, since it is that of a lent slice.
-- Assumes nothing.
use Rattle.std.proofs.Common.{arith}
use Rattle.map.specs.Ask.{first_answer}
use Rattle.c_answers.proofs.Smalls.{asked_small}
use Rattle.c_answers.proofs.MapBounds.{ask_fits}
use Rattle.c_answers.proofs.map_asking.map_first_data.Goals as goal

pub into_reply-requires : goal.into_reply-requires
unfolding first_answer
into_reply-requires c =
    let a = c.args in
    asked_small c.first_data.result (rw c.first_data.ensures (ask_fits a.words.now a.length _ a.p _ (omega arith) (omega arith)))
