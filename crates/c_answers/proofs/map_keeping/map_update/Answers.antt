-- Each length fits a value, since it is that of a lent slice.
-- Assumes nothing.
use Rattle.std.proofs.Common.{arith}
use Rattle.targets.proofs.Within.{size_short}
use Rattle.c_answers.proofs.Smalls.{updated_small}
use Rattle.c_answers.proofs.MapBounds.{update_fits}
use Rattle.c_answers.proofs.map_keeping.map_update.Goals as goal

pub into_reply-requires : goal.into_reply-requires
into_reply-requires c =
    let a = c.args in
    updated_small c.update_map.result
    (rw c.update_map.ensures.result_value
    (update_fits a.image.now a.marks.now (omega arith) (omega arith)
    a.words.now a.p (omega arith)
    (omega (arith, (size_short a.image.now a.p (λ n. (c.type_inv.image n).fits)).1))))
