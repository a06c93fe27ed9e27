-- One byte more, and the last.
-- Assumes nothing.
use Rattle.std.proofs.Common.{get_or, arith}
use Rattle.report_text.specs.Figures.{is_set}
use Rattle.report_text.proofs.Counts.{at_most_one, count_next, count_end}
use Rattle.report_text.proofs.count.set_in.Goals as goal

pub loop-b-preserved : goal.loop-b-preserved
loop-b-preserved c =
    let room = c.args.room.now in
    let b = at_most_one (is_set (get_or room c.loop-b.b-index 0)) in
    let n = count_next is_set room c.loop-b.b-index c.loop-b-test.true in
    (omega arith, omega arith)

pub returns : goal.returns
returns c = let z = count_end is_set c.args.room.now c.loop-b.b-index c.loop-b-test.false in omega arith
