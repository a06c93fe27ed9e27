-- Marks that are not sound are refused; else there is too little room, or all is written.
-- Assumes nothing.
use Rattle.std.proofs.lemmas.Result.{err_from_is_err_and}
use Rattle.views.proofs.Viewing.{is_sound, refused_all}
use Rattle.listing.specs.Lent.{text_of}
use Rattle.listing.proofs.Answering.{too_small, all_written}
use Rattle.listing.proofs.tabbed.listing_by.Goals as goal

pub returns-in_err-check : goal.returns-in_err-check
returns-in_err-check g c =
    let a = c.args in
    let p = err_from_is_err_and c.from_residual.result c.from_residual.ensures.1 in
    let h = refused_all a.image.now a.marks.now (text_of a.mode a.image.now a.marks.now _) a.room.now _ c.in_err-check.ensures in
    record { result_value = rw (p.1, p.2) h.0; room_after = h.1 }

pub needed-need-requires : goal.needed-need-requires
needed-need-requires g c = is_sound c.args.image.now c.args.marks.now c.in_ok-check.ensures

pub returns-then-room-need : goal.returns-then-room-need
returns-then-room-need g c =
    let s = is_sound c.args.image.now c.args.marks.now c.in_ok-check.ensures in
    let h = too_small c.args.image.now c.args.marks.now (text_of c.args.mode c.args.image.now c.args.marks.now _) c.args.room.now s c.needed-need.ensures
    c.if-room-need.true in
    record { result_value = h.0; room_after = h.1 }

pub put_text-requires : goal.put_text-requires
put_text-requires g c = is_sound c.args.image.now c.args.marks.now c.in_ok-check.ensures

pub returns : goal.returns
returns g c =
    let s = is_sound c.args.image.now c.args.marks.now c.in_ok-check.ensures in
    let h = all_written c.args.image.now c.args.marks.now (text_of c.args.mode c.args.image.now c.args.marks.now _) c.args.room.now s
    c.put_text.ensures c.needed-need.ensures c.if-room-need.false in
    record { result_value = h.0; room_after = h.1 }
