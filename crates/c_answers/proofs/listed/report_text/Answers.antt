-- What the report writes or needs fits a value.
-- Assumes nothing.
use Rattle.c_answers.proofs.Smalls.{viewed_small}
use Rattle.c_answers.proofs.Shown.{report_fits}
use Rattle.c_answers.proofs.listed.report_text.Goals as goal

pub into_reply-requires : goal.into_reply-requires
into_reply-requires c =
    let a = c.args in
    viewed_small c.report_text.result (rw c.report_text.ensures.result_value (report_fits a.text.now a.room.now))
