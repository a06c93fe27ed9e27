-- What is shown is no longer than an image, of which every lent slice fits a value.
-- Assumes nothing.
use Rattle.std.proofs.Common.{arith}
use Rattle.listing.proofs.Widths.{overlaps_few}
use Rattle.c_answers.proofs.Smalls.{viewed_small}
use Rattle.c_answers.proofs.Shown.{view_fits}
use Rattle.c_answers.proofs.viewing.overlaps.Goals as goal

pub into_reply-requires : goal.into_reply-requires
into_reply-requires c =
    let a = c.args in
    viewed_small c.find_overlaps.result
    (rw c.find_overlaps.ensures.result_value
    (view_fits a.image.now a.marks.now (omega arith) (omega arith) _ a.room.now
    (omega (arith, overlaps_few a.image.now a.marks.now (λ k. (c.type_inv.image k).fits) a.p))))
