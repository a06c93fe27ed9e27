-- What is not found of `pins::pin`: one position pinned more, or one outside.
-- Assumes nothing.
use Rattle.std.proofs.Common.{◌∙◌}
use Rattle.reach.proofs.Table.{pin_none}
use Rattle.marks.proofs.Pinning.{one_pinned, none_pinned}
use Rattle.marks.proofs.pins.pin.Goals as goal
use Rattle.marks.proofs.pins.pin.Goals.{then-q-n, else-q-n}

pub loop-q-init : goal.loop-q-init
loop-q-init c = pin_none c.args.n c.args.marks.now

pub loop-q-preserved : goal.loop-q-preserved
loop-q-preserved c =
    let a = c.args in
    let l = c.loop-q in
    elim c.if-q-n.branch [
      | then-q-n w ↦ one_pinned a.n a.pins.now a.marks.now l.marks l.q-index c.loop-q-test.true l.invariant w.if-q-n.true _ (w.marks-is ∙ w.put.ensures)
      | else-q-n w ↦ none_pinned a.n a.pins.now a.marks.now l.marks l.q-index c.loop-q-test.true l.invariant w.if-q-n.false _ w.marks-is
    ]
