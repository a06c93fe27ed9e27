-- What is shown is no longer than an image, of which every lent slice fits a value.
-- Assumes nothing.
use Rattle.std.proofs.Common.{arith}
use Rattle.views.proofs.Masking.{mask_length}
use Rattle.c_answers.proofs.Smalls.{viewed_small}
use Rattle.c_answers.proofs.Shown.{view_fits}
use Rattle.c_answers.proofs.viewing.mask.Goals as goal

pub into_reply-requires : goal.into_reply-requires
into_reply-requires c =
    let a = c.args in
    viewed_small c.build_byte_mask.result
    (rw c.build_byte_mask.ensures.result_value
    (view_fits a.image.now a.marks.now (omega arith) (omega arith) _ a.mask.now (omega (arith, mask_length a.image.now a.marks.now))))
