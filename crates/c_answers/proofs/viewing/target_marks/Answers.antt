-- What is shown is no longer than an image, of which every lent slice fits a value.
-- Assumes nothing.
use Rattle.std.proofs.Common.{arith}
use Rattle.views.proofs.Labelling.{labels_length}
use Rattle.c_answers.proofs.Smalls.{viewed_small}
use Rattle.c_answers.proofs.Shown.{view_fits}
use Rattle.c_answers.proofs.viewing.target_marks.Goals as goal

pub into_reply-requires : goal.into_reply-requires
into_reply-requires c =
    let a = c.args in
    viewed_small c.target_marks.result
    (rw c.target_marks.ensures.result_value
    (view_fits a.image.now a.marks.now (omega arith) (omega arith) _ a.room.now (omega (arith, labels_length a.mode a.image.now a.marks.now))))
