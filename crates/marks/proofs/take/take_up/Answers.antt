-- What is not found of `take::take_up`: the position under the exception, and without it.
-- Assumes nothing.
use Rattle.std.proofs.Common.{sym, ◌∙◌}
use Rattle.targets.specs.Ways.{places_in}
use Rattle.marks.proofs.TakeUp.{under, plainly}
use Rattle.marks.proofs.take.take_up.Goals as goal

pub returns-then-is_exempt : goal.returns-then-is_exempt
returns-then-is_exempt c =
    let a = c.args in
    under a.image.now (places_in a.to) a.marks.now a.p _ (sym c.is_exempt.ensures ∙ c.if-is_exempt.true) c.put.ensures

pub returns : goal.returns
returns c =
    let a = c.args in
    let n = c.note_all-noted.ensures in
    plainly a.image.now (places_in a.to) a.marks.now a.p _ (sym c.is_exempt.ensures ∙ c.if-is_exempt.false) _ _ c.put-2.ensures n.result_value n.marks_after
