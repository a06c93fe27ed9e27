-- A step at each field.
-- Assumes nothing.
use Rattle.text.proofs.Cuts.{piece_inside}
use Rattle.list_text.proofs.FieldPuts.{put_next, put_last}
use Rattle.list_text.proofs.Fields.{before_end, at_next}
use Rattle.list_text.proofs.entries.write.Goals as goal

pub slice_bounds-four_of-end : goal.slice_bounds-four_of-end
slice_bounds-four_of-end c = piece_inside 9 c.args.line.now c.loop-entry.at c.end-e.result c.end-e.ensures c.loop-entry.invariant.0

pub returns-then-e-line : goal.returns-then-e-line
returns-then-e-line c =
    put_last c.args.line.now c.args.room.now c.loop-entry.room c.loop-entry.at c.loop-entry.entry-index c.loop-entry.invariant.1 c.end-e.result c.end-e.ensures
    c.four_of.result c.four_of.ensures c.if-e-line.true

pub loop-entry-preserved : goal.loop-entry-preserved
loop-entry-preserved c =
    let h = before_end c.args.line.now c.loop-entry.at c.end-e.result c.end-e.ensures c.loop-entry.invariant.0 c.if-e-line.false in (
      at_next h,
      put_next c.args.line.now c.args.room.now c.loop-entry.room c.loop-entry.at c.loop-entry.entry-index c.loop-entry.invariant.1 c.end-e.result c.end-e.ensures
          c.four_of.result c.four_of.ensures h,
    )
