-- What the program prints fits a value.
-- Assumes nothing.
use Rattle.std.proofs.Common.{◌<◌, ◌^◌, length, arith, []}
use Rattle.unlist_text.specs.Unlisted.{unlisted_of}
use Rattle.read_back_laws.proofs.ClaimsUnlistedFits.{unlisted_fits}
use Rattle.c_answers.proofs.Smalls.{viewed_small}
use Rattle.c_answers.proofs.Shown.{room_fits}
use Rattle.c_answers.proofs.listed.unlist_text.Goals as goal

pub into_reply-requires : goal.into_reply-requires
into_reply-requires c =
    let l : length c.args.text.now < 2 ^ 63 = omega arith in
    let n : c.args.length < 2 ^ 63 = omega arith in
    viewed_small c.unlist_text.result (rw c.unlist_text.ensures.result_value (room_fits [] tt (unlisted_of c.args.text.now c.args.length) c.args.room.now
    (omega (arith, unlisted_fits c.args.text.now c.args.length l n))))
