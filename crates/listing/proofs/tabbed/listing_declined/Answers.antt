-- The text is the listing.
-- Assumes nothing.
use Rattle.std.proofs.Common.{false, refl}
use Rattle.listing.specs.declared.tabbed.Arrivals.TheVariants.{Declined}
use Rattle.listing.proofs.Answering.{is_listing, same_text}
use Rattle.listing.proofs.tabbed.listing_declined.Goals as goal

pub returns : goal.returns
returns c =
    let a = c.args in
    let h = same_text a.image.now a.marks.now a.room.now (is_listing a.mode a.image.now a.marks.now Declined false refl)
    (c.listing_by.ensures.result_value, c.listing_by.ensures.room_after) in
    record { result_value = h.0; room_after = h.1 }
