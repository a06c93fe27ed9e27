-- What is not found of `held::held_at`: the cases of the definition.
-- Assumes nothing.
use mathlib.Core.Path.{◌≡◌, refl, sym, ap, ◌∙◌}
use Rattle.std.proofs.Common.{Result, Ok, Err}
use Rattle.std.specs.Result.{result_unwrap_or}
use Rattle.targets.specs.Ways.{places_in}
use Rattle.targets.specs.declared.place.Places.{Places}
use Rattle.targets.specs.declared.place.Places.TheVariants.{Nothing}
use Rattle.targets.specs.declared.not_whole.NotWhole.{NotWhole}
use Rattle.arrivals.proofs.Holding.{gone, unheld, was_held}
use Rattle.arrivals.proofs.held.held_at.Goals as goal

pub returns-then-not-had_targets : goal.returns-then-not-had_targets
returns-then-not-had_targets c =
    let a = c.args in unheld a.mode a.image.now a.q a.marks.now (sym c.had_targets.ensures ∙ c.if-not-had_targets.true)

or_nothing : (r : Result Places NotWhole) → places_in (result_unwrap_or r Nothing) ≡ gone r
or_nothing (Ok ps) = refl
or_nothing (Err e) = refl

pub returns : goal.returns
returns c =
    let a = c.args in
    let e = was_held a.mode a.image.now a.q a.marks.now (sym c.had_targets.ensures ∙ c.if-not-had_targets.false) c.ways_at.result c.ways_at.ensures in
    ap places_in c.unwrap_or.ensures ∙ or_nothing c.ways_at.result ∙ e
