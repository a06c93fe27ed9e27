-- A step at each field.
-- Assumes nothing.
use Rattle.std.proofs.Common.{sym, ◌∙◌, arith}
use Rattle.text.proofs.Cuts.{piece_inside}
use Rattle.list_text.proofs.Fields.{before_end, at_next, empty_line, left_start, left_next, left_last, left_bad, left_full}
use Rattle.list_text.proofs.entries.judge.Goals as goal

pub returns-then-line-eq0 : goal.returns-then-line-eq0
returns-then-line-eq0 c = empty_line c.args.line.now c.if-line-eq0.true

pub loop-n-init : goal.loop-n-init
loop-n-init c = (omega arith, left_start c.args.line.now c.if-line-eq0.false)

pub slice_bounds-is_four-end : goal.slice_bounds-is_four-end
slice_bounds-is_four-end c = piece_inside 9 c.args.line.now c.loop-n.at c.end-e.result c.end-e.ensures c.loop-n.invariant.0

pub returns-then-not-is_four : goal.returns-then-not-is_four
returns-then-not-is_four c =
    left_bad c.args.line.now c.loop-n.at c.loop-n.n c.end-e.result c.end-e.ensures c.loop-n.invariant.0
    (sym c.is_four.ensures ∙ c.if-not-is_four.true) c.loop-n.invariant.1

pub returns-then-e-line : goal.returns-then-e-line
returns-then-e-line c =
    left_last c.args.line.now c.loop-n.at c.loop-n.n c.end-e.result c.end-e.ensures c.if-e-line.true c.loop-n-test.true
    (sym c.is_four.ensures ∙ c.if-not-is_four.false) c.loop-n.invariant.1

pub loop-n-preserved : goal.loop-n-preserved
loop-n-preserved c =
    let h = before_end c.args.line.now c.loop-n.at c.end-e.result c.end-e.ensures c.loop-n.invariant.0 c.if-e-line.false in (
      at_next h,
      left_next c.args.line.now c.loop-n.at c.loop-n.n c.end-e.result c.end-e.ensures h
          (sym c.is_four.ensures ∙ c.if-not-is_four.false) c.loop-n.invariant.1,
    )

pub returns : goal.returns
returns c = left_full c.args.line.now c.loop-n.at c.loop-n.n c.loop-n-test.false c.loop-n.invariant.1
