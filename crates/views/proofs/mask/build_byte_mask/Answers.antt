-- What is not found of `mask::build_byte_mask`: what is refused, and what is shown.
-- Assumes nothing.
use lib.ListN.{length}
use Rattle.std.proofs.lemmas.Result.{err_from_is_err_and}
use Rattle.views.specs.Mask.{mask_of}
use Rattle.views.proofs.Masking.{mask_length}
use Rattle.views.proofs.Viewing.{small, covered, refused_in, room_sound, room_fits, shown_in}
use Rattle.views.proofs.mask.build_byte_mask.Goals as goal

pub returns-in_err-check_room : goal.returns-in_err-check_room
returns-in_err-check_room c =
    let a = c.args in
    let p = err_from_is_err_and c.from_residual.result c.from_residual.ensures.1 in
    let v = refused_in a.image.now a.marks.now (mask_of a.image.now a.marks.now) a.mask.now (length a.image.now)
    (mask_length a.image.now a.marks.now) _ c.in_err-check_room.ensures in
    record { result_value = rw (p.1, p.2) v.0; mask_after = v.1 }

pub write_mask-requires : goal.write_mask-requires
write_mask-requires c =
    let a = c.args in
    let e = c.in_ok-check_room.ensures in
    let s = room_sound a.image.now a.marks.now (length a.mask.now) (length a.image.now) e in
    (covered a.image.now a.marks.now s, small a.image.now a.marks.now s, room_fits a.image.now a.marks.now (length a.mask.now) (length a.image.now) e)

pub returns : goal.returns
returns c =
    let a = c.args in
    let v = shown_in a.image.now a.marks.now (mask_of a.image.now a.marks.now) a.mask.now (length a.image.now)
    (mask_length a.image.now a.marks.now) c.in_ok-check_room.ensures _ c.write_mask.ensures in
    record { result_value = v.0; mask_after = v.1 }
