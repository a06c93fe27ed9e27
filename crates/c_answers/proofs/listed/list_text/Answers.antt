-- What the program prints fits a value.
-- Assumes nothing.
use Rattle.std.proofs.Common.{arith, []}
use Rattle.list_text.specs.Output.{output_of}
use Rattle.list_text.proofs.ClaimsOutputFits.{output_fits}
use Rattle.c_answers.proofs.Smalls.{viewed_small}
use Rattle.c_answers.proofs.Shown.{room_fits}
use Rattle.c_answers.proofs.listed.list_text.Goals as goal

pub into_reply-requires : goal.into_reply-requires
into_reply-requires c =
    let a = c.args in
    viewed_small c.list_text.result
    (rw c.list_text.ensures.result_value
    (room_fits [] tt (output_of a.text.now) a.room.now (omega (arith, output_fits a.text.now))))
