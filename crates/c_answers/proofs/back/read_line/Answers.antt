-- What follows on a line, and its number, fit a value.
-- Assumes nothing.
use Rattle.std.proofs.Common.{◌<◌, ◌^◌, arith}
use Rattle.c_answers.proofs.Smalls.{found_small}
use Rattle.c_answers.proofs.ReadBounds.{read_fits}
use Rattle.c_answers.proofs.back.read_line.Goals as goal

pub into_reply-requires : goal.into_reply-requires
into_reply-requires c =
    let a = c.args in
    let n : c.place_of.result.line < 2 ^ 63 = rw c.place_of.ensures (omega arith) in
    found_small c.read_line-read.result (rw c.read_line-read.ensures (read_fits a.mode a.text.now c.place_of.result (omega arith) n))
