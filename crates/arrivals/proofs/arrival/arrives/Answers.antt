-- What is not found of `arrival::arrives`: whether p is inside, and its targets.
-- Assumes nothing.
use mathlib.Core.Path.{◌∙◌}
use Rattle.targets.specs.Ways.{places_in}
use Rattle.arrivals.proofs.Arriving.{not_inside, by_targets}
use Rattle.arrivals.proofs.arrival.arrives.Goals as goal

pub returns-then-image-p : goal.returns-then-image-p
returns-then-image-p c = let a = c.args in not_inside a.mode a.image.now a.marks.now a.p c.if-image-p.true a.q

pub returns : goal.returns
returns c =
    let a = c.args in
    c.has.ensures ∙ by_targets a.mode a.image.now a.marks.now a.p c.if-image-p.false a.q (places_in c.held_at.result) c.held_at.ensures
