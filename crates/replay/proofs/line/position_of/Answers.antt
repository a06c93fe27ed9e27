-- `line::position_of` meets its contract.
-- Assumes nothing.
use Rattle.std.proofs.Common.{◌∙◌}
use Rattle.replay.proofs.Lines.{no_letter, no_tab, no_end, by_digits}
use Rattle.replay.proofs.line.position_of.Goals as goal

pub returns-then-line-ne80 : goal.returns-then-line-ne80
returns-then-line-ne80 c = no_letter c.args.line.now c.told-line c.if-line-ne80.true

pub returns-then-line-ne-TAB : goal.returns-then-line-ne-TAB
returns-then-line-ne-TAB c = no_tab c.args.line.now c.told-line c.if-line-ne80.false c.if-line-ne-TAB.true

pub returns-then-line-ne-LINE_END : goal.returns-then-line-ne-LINE_END
returns-then-line-ne-LINE_END c = no_end c.args.line.now c.told-line c.if-line-ne80.false c.if-line-ne-TAB.false c.if-line-ne-LINE_END.true

pub returns : goal.returns
returns c =
    c.read_four.ensures ∙ by_digits c.args.line.now c.told-line c.if-line-ne80.false c.if-line-ne-TAB.false c.if-line-ne-LINE_END.false
