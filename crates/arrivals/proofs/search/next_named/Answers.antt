-- What is not found of `search::next_named`: no name is passed over.
-- Assumes nothing.
use mathlib.Core.Path.{sym, ◌∙◌}
use native.Mathlib.Omega.{arith}
use borrow.Author.Tests.{eq-eqb, ne_eqb}
use Rattle.arrivals.specs.Index.{lowest_of, names_held}
use Rattle.arrivals.specs.Search.{may_name}
use Rattle.arrivals.proofs.Lowest.{low_here, low_later, below_some, below_none, told_some, told_none}
use Rattle.arrivals.proofs.Searching.{Search, none_between, not_before, asks_name, none_named}
use Rattle.arrivals.proofs.search.next_named.Goals as goal

pub returns-then-p-name_at : goal.returns-then-p-name_at
returns-then-p-name_at c =
    let a = c.args in
    let r = c.requires in
    let s : Search a.image.now a.p a.end = record { bytes = λ i. (c.type_inv.image i).fits; fits = r.0; inside = r.2; before = r.3 } in
    let m = a.marks.now in
    let H = names_held a.mode a.image.now m a.p in
    let q = c.in-Some.q in
    let b = below_some a.end (lowest_of (may_name a.image.now m) a.end c.loop-q.at) q (sym c.in-Some.is ∙ c.next_naming.ensures) in
    let k = asks_name s a.mode m c.loop-q.at q (sym b.0) b.1 c.name_at.result c.name_at.ensures in
    told_some a.end (lowest_of H a.end a.from) q
    (sym (none_between s a.mode m c.loop-q.at q (sym b.0) ∙ c.loop-q.invariant) ∙ low_here H a.end q b.1 (sym k ∙ eq-eqb _ _ c.if-p-name_at.true)) b.1

pub loop-q-smaller : goal.loop-q-smaller
loop-q-smaller c =
    let a = c.args in
    let r = c.requires in
    let s : Search a.image.now a.p a.end = record { bytes = λ i. (c.type_inv.image i).fits; fits = r.0; inside = r.2; before = r.3 } in
    let q = c.in-Some.q in
    let b = below_some a.end (lowest_of (may_name a.image.now a.marks.now) a.end c.loop-q.at) q (sym c.in-Some.is ∙ c.next_naming.ensures) in
    let h = not_before s a.mode a.marks.now c.loop-q.at q (sym b.0) b.1 in
    omega (arith, h, b.1)

pub loop-q-preserved : goal.loop-q-preserved
loop-q-preserved c =
    let a = c.args in
    let r = c.requires in
    let s : Search a.image.now a.p a.end = record { bytes = λ i. (c.type_inv.image i).fits; fits = r.0; inside = r.2; before = r.3 } in
    let m = a.marks.now in
    let H = names_held a.mode a.image.now m a.p in
    let q = c.in-Some.q in
    let b = below_some a.end (lowest_of (may_name a.image.now m) a.end c.loop-q.at) q (sym c.in-Some.is ∙ c.next_naming.ensures) in
    let k = asks_name s a.mode m c.loop-q.at q (sym b.0) b.1 c.name_at.result c.name_at.ensures in
    sym (low_later H a.end q b.1 (sym k ∙ ne_eqb _ _ c.if-p-name_at.false)) ∙ none_between s a.mode m c.loop-q.at q (sym b.0) ∙ c.loop-q.invariant

pub returns : goal.returns
returns c =
    let a = c.args in
    let r = c.requires in
    let s : Search a.image.now a.p a.end = record { bytes = λ i. (c.type_inv.image i).fits; fits = r.0; inside = r.2; before = r.3 } in
    let m = a.marks.now in
    let H = names_held a.mode a.image.now m a.p in
    let h = below_none a.end (lowest_of (may_name a.image.now m) a.end c.loop-q.at) (sym c.in_default.is ∙ c.next_naming.ensures) in
    told_none a.end (lowest_of H a.end a.from) (omega (arith, none_named s a.mode m c.loop-q.at h, c.loop-q.invariant, r.0, r.3))
