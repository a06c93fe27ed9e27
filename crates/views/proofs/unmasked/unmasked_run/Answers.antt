-- What is not found of `unmasked::unmasked_run`: the part of the image.
-- Assumes nothing.
use Rattle.views.proofs.Unmasking.{run_covered, run_past, run_in}
use Rattle.views.proofs.unmasked.unmasked_run.Goals as goal

pub returns-then-at-end : goal.returns-then-at-end
returns-then-at-end c = let a = c.args in run_covered a.image.now a.marks.now a.p a.end c.if-at-end.true

pub returns-then-image-at : goal.returns-then-image-at
returns-then-image-at c = let a = c.args in run_past a.image.now a.marks.now a.p a.end c.if-at-end.false c.if-image-at.true

pub returns : goal.returns
returns c =
    let a = c.args in run_in a.image.now a.marks.now a.p a.end c.if-at-end.false c.untraced_length.result c.untraced_length.ensures.0
