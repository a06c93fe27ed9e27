-- What is not found of `damage::check_one`: the position refused, or none.
-- Assumes nothing.
use Rattle.std.proofs.Common.{[], sym, ◌∙◌}
use Rattle.trace.proofs.Damages.{damaged_first, sound_first, sound_end}
use Rattle.trace.proofs.damage.check_one.Goals as goal

pub returns-then-is_damaged_mark : goal.returns-then-is_damaged_mark
returns-then-is_damaged_mark c =
    let a = c.args in
    damaged_first a.n a.marks.now a.t [] (sym c.is_damaged_mark.ensures ∙ c.if-is_damaged_mark.true)

pub returns : goal.returns
returns c =
    let a = c.args in
    sound_end a.n a.marks.now ∙ sound_first a.n a.marks.now a.t [] (sym c.is_damaged_mark.ensures ∙ c.if-is_damaged_mark.false)
