-- What is not found of `build::build_map`: what is refused, and what is shown.
-- Assumes nothing.
use mathlib.Core.Path.{sym, ◌∙◌}
use lib.ListN.{length}
use Rattle.std.proofs.lemmas.Result.{err_from_is_err_and}
use Rattle.views.specs.Mask.{mask_of}
use Rattle.views.proofs.Viewing.{small, covered, refused_in, room_sound, room_fits, shown_in}
use Rattle.map.specs.Packed.{packed}
use Rattle.map.proofs.Marking.{packed_length}
use Rattle.map.proofs.Sounding.{undamaged}
use Rattle.map.proofs.build.build_map.Goals as goal

pub returns-in_err-check_room : goal.returns-in_err-check_room
returns-in_err-check_room c =
    let a = c.args in
    let p = err_from_is_err_and c.from_residual.result c.from_residual.ensures.1 in
    let v = refused_in a.image.now a.marks.now (packed (mask_of a.image.now a.marks.now)) a.words.now c.words_for-need.result
    (packed_length a.image.now a.marks.now ∙ sym c.words_for-need.ensures) _ c.in_err-check_room.ensures in
    record { result_value = rw (p.1, p.2) v.0; words_after = v.1 }

pub write_map-requires : goal.write_map-requires
write_map-requires c =
    let a = c.args in
    let e = c.in_ok-check_room.ensures in
    let s = room_sound a.image.now a.marks.now (length a.words.now) c.words_for-need.result e in (
      covered a.image.now a.marks.now s,
      small a.image.now a.marks.now s,
      c.words_for-need.ensures,
      room_fits a.image.now a.marks.now (length a.words.now) c.words_for-need.result e,
      undamaged a.image.now a.marks.now s,
    )

pub returns : goal.returns
returns c =
    let a = c.args in
    let v = shown_in a.image.now a.marks.now (packed (mask_of a.image.now a.marks.now)) a.words.now c.words_for-need.result
    (packed_length a.image.now a.marks.now ∙ sym c.words_for-need.ensures) c.in_ok-check_room.ensures _ c.write_map.ensures in
    record { result_value = v.0; words_after = v.1 }
