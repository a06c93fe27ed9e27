-- The position after an instruction fits a value.
-- Assumes nothing.
use Rattle.std.proofs.Common.{arith}
use Rattle.c_answers.proofs.Smalls.{targeted_small}
use Rattle.c_answers.proofs.Sizes.{targets_fits}
use Rattle.c_answers.proofs.codec.targets.Goals as goal

pub into_reply-requires : goal.into_reply-requires
into_reply-requires c =
    let a = c.args in
    targeted_small c.targets.result (rw c.targets.ensures (targets_fits a.mode a.position c.with_first-instr.result (omega arith)))
