-- What is not found of `way::after`: each position is below the bound, and two are covered one after the other.
-- Assumes nothing.
use mathlib.Core.Path.{refl, sym, subst}
use mathlib.Core.List.{Memᴰ as Among}
use Rattle.targets.specs.Ways.{places_in}
use Rattle.targets.specs.declared.place.Places.{Places}
use Rattle.sweep.proofs.Covering.{after_two}
use Rattle.sweep.proofs.way.after.Goals as goal

pub with_one-requires : goal.with_one-requires
with_one-requires c = c.requires.1 _ (subst (λ (x : Places). Among c.in-First.s (places_in x)) (sym c.in-First.is) (Among.head refl))

pub with_one-requires-in-Both : goal.with_one-requires-in-Both
with_one-requires-in-Both c = c.requires.1 _ (subst (λ (x : Places). Among c.in-Both.s (places_in x)) (sym c.in-Both.is) (Among.head refl))

pub with_one-requires-in-Both-2 : goal.with_one-requires-in-Both-2
with_one-requires-in-Both-2 c =
    c.requires.1 _ (subst (λ (x : Places). Among c.in-Both.t (places_in x)) (sym c.in-Both.is) (Among.tail (Among.head refl)))

pub returns-in-Both : goal.returns-in-Both
returns-in-Both c =
    let a = c.args in
    rw c.in-Both.is (after_two a.way _ a.at refl _ _ c.with_one-in-Both.result c.with_one-in-Both-2.result c.with_one-in-Both.ensures c.with_one-in-Both-2.ensures)
