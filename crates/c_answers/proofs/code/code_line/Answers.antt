-- A line fits a value.
-- Assumes nothing.
use Rattle.std.proofs.Common.{arith}
use Rattle.c_answers.proofs.CodeLines.{line_fits}
use Rattle.c_answers.proofs.Smalls.{lined_small}
use Rattle.c_answers.proofs.code.code_line.Goals as goal

pub into_reply-requires : goal.into_reply-requires
into_reply-requires c =
    lined_small c.put_line.result
    (rw c.put_line.ensures.result_value
    (line_fits c.args.mode c.args.position c.args.bytes.now c.args.room.now (λ n. (c.type_inv.bytes n).fits) (omega arith)))
