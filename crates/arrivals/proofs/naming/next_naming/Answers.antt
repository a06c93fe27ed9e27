-- What is not found of `naming::next_naming`: what is told, and one position more.
-- Assumes nothing.
use mathlib.Core.Path.{sym, ◌∙◌}
use native.Mathlib.Omega.{arith}
use Rattle.arrivals.specs.Index.{lowest_of}
use Rattle.arrivals.specs.Search.{may_name}
use Rattle.arrivals.proofs.Lowest.{low_past, low_here, low_later, told_some, told_none}
use Rattle.arrivals.proofs.naming.next_naming.Goals as goal

pub returns-then-may_name : goal.returns-then-may_name
returns-then-may_name c =
    let a = c.args in
    let f = may_name a.image.now a.marks.now in
    let h = c.loop-q-test.true in
    told_some a.end (lowest_of f a.end a.from) c.loop-q.q
    (sym c.loop-q.invariant ∙ low_here f a.end c.loop-q.q h (sym c.may_name.ensures ∙ c.if-may_name.true)) h

pub loop-q-preserved : goal.loop-q-preserved
loop-q-preserved c =
    let a = c.args in
    sym (low_later (may_name a.image.now a.marks.now) a.end c.loop-q.q c.loop-q-test.true (sym c.may_name.ensures ∙ c.if-may_name.false))
    ∙ c.loop-q.invariant

pub returns : goal.returns
returns c =
    let a = c.args in
    let f = may_name a.image.now a.marks.now in
    let e = low_past f a.end c.loop-q.q c.loop-q-test.false in
    told_none a.end (lowest_of f a.end a.from) (omega (arith, e, c.loop-q.invariant, c.requires.2))
