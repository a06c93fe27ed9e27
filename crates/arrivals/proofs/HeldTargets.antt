-- The targets that a position had are at most two.
-- Assumes nothing.
use mathlib.Core.Bool.{Bool, true, false, cond, ◌&&◌}
use mathlib.Core.List.{List, []}
use Prim.Native.Nat.{ℕ, ◌≤◌}
use native.Mathlib.Omega.{arith}
use lib.Dec.{eqb}
use lib.ListN.{length, get_or}
use Rattle.instruction.specs.declared.mode.Mode.{Mode}
use Rattle.targets.specs.At.{ways_here}
use Rattle.targets.specs.Ways.{is_whole}
use Rattle.targets.proofs.WaysAre.{ways_few}
use Rattle.reach.specs.Mark.{flash}
use Rattle.reach.specs.Tracer.{held}
use Rattle.views.specs.Positions.{traced_at}
use Rattle.arrivals.specs.Arrivals.{held_at}

pub held_few : (mode : Mode) (image m : List ℕ) (q : ℕ) → length (held_at mode image m q) ≤ 2
unfolding held_at held
held_few mode image m q = by (traced_at image m q && is_whole image q) (eqb (get_or m q 0) flash)
  where
    by : (t f : Bool) → length (cond t (cond f [] (ways_here mode image q)) []) ≤ 2
    by true true = omega arith
    by true false = ways_few mode image q
    by false f = omega arith
