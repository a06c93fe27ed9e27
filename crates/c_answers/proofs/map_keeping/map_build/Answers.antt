-- Each length fits a value, since it is that of a lent slice.
-- Assumes nothing.
use Rattle.std.proofs.Common.{arith}
use Rattle.c_answers.proofs.Smalls.{viewed_small}
use Rattle.c_answers.proofs.MapBounds.{build_fits}
use Rattle.c_answers.proofs.map_keeping.map_build.Goals as goal

pub into_reply-requires : goal.into_reply-requires
into_reply-requires c =
    let a = c.args in
    viewed_small c.build_map.result
    (rw c.build_map.ensures.result_value
    (build_fits a.image.now a.marks.now (omega arith) (omega arith)
    a.words.now))
