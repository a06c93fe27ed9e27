-- What is not found of `labels::target_marks`: what is refused, and what is shown.
-- Assumes nothing.
use lib.ListN.{length}
use Rattle.std.proofs.lemmas.Result.{err_from_is_err_and}
use Rattle.views.specs.Labels.{labels_of}
use Rattle.views.proofs.Labelling.{labels_length}
use Rattle.views.proofs.Viewing.{small, covered, refused_in, room_sound, room_fits, shown_in}
use Rattle.views.proofs.labels.target_marks.Goals as goal

pub returns-in_err-check_room : goal.returns-in_err-check_room
returns-in_err-check_room c =
    let a = c.args in
    let p = err_from_is_err_and c.from_residual.result c.from_residual.ensures.1 in
    let v = refused_in a.image.now a.marks.now (labels_of a.mode a.image.now a.marks.now) a.room.now (length a.image.now)
    (labels_length a.mode a.image.now a.marks.now) _ c.in_err-check_room.ensures in
    record { result_value = rw (p.1, p.2) v.0; room_after = v.1 }

pub write_labels-requires : goal.write_labels-requires
write_labels-requires c =
    let a = c.args in
    let e = c.in_ok-check_room.ensures in
    let s = room_sound a.image.now a.marks.now (length a.room.now) (length a.image.now) e in
    (covered a.image.now a.marks.now s, small a.image.now a.marks.now s, room_fits a.image.now a.marks.now (length a.room.now) (length a.image.now) e)

pub returns : goal.returns
returns c =
    let a = c.args in
    let v = shown_in a.image.now a.marks.now (labels_of a.mode a.image.now a.marks.now) a.room.now (length a.image.now)
    (labels_length a.mode a.image.now a.marks.now) c.in_ok-check_room.ensures _ c.write_labels.ensures in
    record { result_value = v.0; room_after = v.1 }
