-- The target marks stand at the beginning of their room.
-- Assumes nothing.
use Rattle.std.proofs.Common.{sym}
use lib.Seq.{length-take-le}
use Rattle.views.specs.Labels.{labels_of}
use Rattle.views.proofs.Labelling.{labels_length}
use Rattle.views.proofs.Viewing.{small, covered}
use Rattle.listing.proofs.Answering.{in_front, long_enough}
use Rattle.listing.proofs.tabbed.put_declined.Goals as goal

pub slice_bounds-labels-end : goal.slice_bounds-labels-end
slice_bounds-labels-end c =
    let a = c.args in
    let l = labels_of a.mode a.image.now a.marks.now in
    let e = labels_length a.mode a.image.now a.marks.now in
    let f = in_front a.image.now a.marks.now c.requires l e c.bytes-labels.result c.bytes-labels.ensures c.target_marks.new.room c.target_marks.ensures.room_after in
    long_enough c.target_marks.new.room l _ f e

pub slice_bounds-table-end : goal.slice_bounds-table-end
slice_bounds-table-end c =
    let a = c.args in
    let l = labels_of a.mode a.image.now a.marks.now in
    let e = labels_length a.mode a.image.now a.marks.now in
    let f = in_front a.image.now a.marks.now c.requires l e c.bytes-labels.result c.bytes-labels.ensures c.target_marks.new.room c.target_marks.ensures.room_after in
    sym (length-take-le _ c.target_marks.new.room (long_enough c.target_marks.new.room l _ f e))

pub invariant_of-lent : goal.invariant_of-lent
invariant_of-lent c =
    let a = c.args in
    let l = labels_of a.mode a.image.now a.marks.now in
    let e = labels_length a.mode a.image.now a.marks.now in
    record {
      small = ((λ n. (c.type_inv.image n).fits), small a.image.now a.marks.now c.requires);
      covered = covered a.image.now a.marks.now c.requires;
      told = in_front a.image.now a.marks.now c.requires l e c.bytes-labels.result c.bytes-labels.ensures c.target_marks.new.room
          c.target_marks.ensures.room_after;
    }
