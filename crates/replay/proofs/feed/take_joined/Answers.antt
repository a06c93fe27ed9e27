-- `feed::take_joined` meets its contract.
-- Assumes nothing.
use Rattle.std.proofs.Common.{◌-◌, length, refl, arith}
use Rattle.map.specs.Words.{code_at}
use Rattle.replay.proofs.Joining.{joined_short, joined_stop, joined_on, place_in}
use Rattle.replay.specs.Take.{state}
use Rattle.replay.proofs.feed.take_joined.Goals as goal

pub returns-then-n-lt-LENGTH : goal.returns-then-n-lt-LENGTH
returns-then-n-lt-LENGTH c =
    let a = c.args in
    joined_short a.ground.mode a.ground.image.now a.ground.marks.now (code_at a.ground.table.now) a.log a.counts.now a.text.now _ _ _
    c.begin_line-n.ensures.value c.begin_line-n.ensures.line_after refl c.if-n-lt-LENGTH.true _ _ (omega arith) c.keep.ensures

pub returns-then-after-ne0 : goal.returns-then-after-ne0
returns-then-after-ne0 c =
    let a = c.args in
    joined_stop a.ground.mode a.ground.image.now a.ground.marks.now (code_at a.ground.table.now) a.log a.counts.now a.text.now _ _ _
    c.begin_line-n.ensures.value c.begin_line-n.ensures.line_after refl c.if-n-lt-LENGTH.false _ c.take_lines-after.ensures c.if-after-ne0.true

pub slice_bounds-take_lines-count : goal.slice_bounds-take_lines-count
slice_bounds-take_lines-count c =
    let a = c.args in
    place_in a.ground.mode a.ground.image.now a.ground.marks.now (code_at a.ground.table.now) a.log a.counts.now a.text.now _ _ _
    c.begin_line-n.ensures.value c.begin_line-n.ensures.line_after refl c.if-n-lt-LENGTH.false _ c.take_lines-after.ensures _ c.held_in-taken.ensures

pub slice_bounds-take_lines-start : goal.slice_bounds-take_lines-start
slice_bounds-take_lines-start c =
    let a = c.args in
    place_in a.ground.mode a.ground.image.now a.ground.marks.now (code_at a.ground.table.now) a.log a.counts.now a.text.now _ _ _
    c.begin_line-n.ensures.value c.begin_line-n.ensures.line_after refl c.if-n-lt-LENGTH.false _ c.take_lines-after.ensures _ c.held_in-taken.ensures

pub returns : goal.returns
returns c =
    let a = c.args in
    joined_on a.ground.mode a.ground.image.now a.ground.marks.now (code_at a.ground.table.now) a.log a.counts.now a.text.now _ _ _
    c.begin_line-n.ensures.value c.begin_line-n.ensures.line_after refl c.if-n-lt-LENGTH.false (state c.take_lines-after.result _)
    c.take_lines-after.ensures c.if-after-ne0.false _ (length a.text.now - (7 - c.held_in-taken.result)) c.held_in-taken.ensures refl
    (state c.take_lines.result _) c.take_lines.ensures
