-- Each choice has its text, which is the listing.
-- Assumes nothing.
use Rattle.std.proofs.Common.{true, false, sym, ap}
use Rattle.listing.specs.Walk.{is_chosen}
use Rattle.listing.proofs.Answering.{is_listing, same_text}
use Rattle.listing.proofs.tabbed.listing_with.Goals as goal

pub returns-in-Chosen : goal.returns-in-Chosen
returns-in-Chosen c =
    let a = c.args in
    let h = same_text a.image.now a.marks.now a.room.now (is_listing a.mode a.image.now a.marks.now a.arrivals true (sym (ap is_chosen c.in-Chosen.is)))
    (c.listing_by.ensures.result_value, c.listing_by.ensures.room_after) in
    record { result_value = h.0; room_after = h.1 }

pub returns-in-Declined : goal.returns-in-Declined
returns-in-Declined c =
    let a = c.args in
    let h = same_text a.image.now a.marks.now a.room.now (is_listing a.mode a.image.now a.marks.now a.arrivals false (sym (ap is_chosen c.in-Declined.is)))
    (c.listing_by-in-Declined.ensures.result_value, c.listing_by-in-Declined.ensures.room_after) in
    record { result_value = h.0; room_after = h.1 }
