-- What is not found of `arrival::has`: the cases of the positions.
-- Assumes nothing.
use mathlib.Core.Path.{◌≡◌, ◌∙◌}
use mathlib.Core.Bool.{Bool}
use Prim.Native.Nat.{ℕ}
use lib.Dec.{eqb}
use borrow.Author.Tests.{eq-eqb}
use Rattle.targets.specs.Ways.{places_in}
use Rattle.targets.specs.declared.place.Places.{Places}
use Rattle.views.specs.Positions.{some}
use Rattle.arrivals.proofs.Arriving.{the_one, the_first, the_second, nowhere}
use Rattle.arrivals.proofs.arrival.has.Goals as goal

-- what holds of an arm's positions holds of all
arm : (p : ℕ) {w w' : Places} (r : Bool) → w ≡ w' → r ≡ some (eqb p) (places_in w') → r ≡ some (eqb p) (places_in w)
arm p r e f = rw e f

pub returns-in-Nothing : goal.returns-in-Nothing
returns-in-Nothing c = arm c.args.p _ c.in-Nothing.is (nowhere c.args.p)

pub returns-in-First : goal.returns-in-First
returns-in-First c = arm c.args.p _ c.in-First.is (the_one c.args.p c.in-First.a)

pub returns-then-p-a : goal.returns-then-p-a
returns-then-p-a c = arm c.args.p _ c.in-Both.is (eq-eqb c.args.p c.in-Both.a c.if-p-a.true ∙ the_first c.args.p c.in-Both.a c.if-p-a.true c.in-Both.b)

pub returns-else-p-a : goal.returns-else-p-a
returns-else-p-a c = arm c.args.p _ c.in-Both.is (the_second c.args.p c.in-Both.a c.if-p-a.false c.in-Both.b)
