-- What is not found of `search::next_arrival`: which of the two is told.
-- Assumes nothing.
use mathlib.Core.Path.{ap, ◌∙◌}
use native.Mathlib.Omega.{arith}
use Rattle.std.specs.Option.{option_or}
use Rattle.arrivals.proofs.Searching.{Search, arrival_found}
use Rattle.arrivals.proofs.search.next_arrival.Goals as goal

pub returns : goal.returns
returns c =
    let a = c.args in
    let r = c.requires in
    let d = c.min-end.result in
    let s : Search a.image.now a.p d = record { bytes = λ i. (c.type_inv.image i).fits; fits = r.0; inside = r.2; before = omega arith } in
    c.or.ensures ∙ ap (option_or c.next_named-named.result) c.then_some.ensures
    ∙ arrival_found s a.mode a.marks.now a.from c.next_fall-falls.result c.next_named-named.result c.next_fall-falls.ensures (omega arith) (omega arith, omega arith)
    c.next_named-named.ensures
