-- The counts of an input fit a value.
-- Assumes nothing.
use Rattle.std.proofs.Common.{arith}
use Rattle.c_answers.proofs.Smalls.{parsed_small}
use Rattle.c_answers.proofs.InputBounds.{parse_fits}
use Rattle.c_answers.proofs.listed.parse.Goals as goal

pub into_reply-requires : goal.into_reply-requires
into_reply-requires c =
    let a = c.args in
    parsed_small c.parse.result (rw c.parse.ensures.result_value (parse_fits a.text.now (omega arith) a.entries.now a.image.now))
