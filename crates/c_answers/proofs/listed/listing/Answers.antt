-- A listing is shown of no longer image than memory has, and then it fits a value.
-- Assumes nothing.
use Rattle.std.proofs.Common.{arith}
use Rattle.c_answers.proofs.Smalls.{viewed_small}
use Rattle.c_answers.proofs.Shown.{limited_fits, listing_few}
use Rattle.c_answers.proofs.listed.listing.Goals as goal

pub into_reply-requires : goal.into_reply-requires
into_reply-requires c =
    let a = c.args in
    viewed_small c.listing_with.result
    (rw c.listing_with.ensures.result_value
    (limited_fits a.image.now a.marks.now (omega arith) (omega arith) _ a.room.now
    (λ h. listing_few a.mode a.image.now a.marks.now (λ n. (c.type_inv.image n).fits) h c.choice.result)))
