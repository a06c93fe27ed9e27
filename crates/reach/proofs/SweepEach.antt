-- How many sweeps there are: each but the last takes at least one position, and the last none. Assumes nothing.
use Prim.Native.Nat.{ℕ, zero, suc, ◌+◌, ◌<◌, ◌≤◌}
use native.Mathlib.Omega.{arith}
use mathlib.Core.Bool.{Bool, true, false, cond}
use mathlib.Core.Path.{◌≡◌, refl}
use mathlib.Core.List.{List}
use lib.ListN.{length}
use borrow.Author.Tests.{eqb-true, eqb-false}
use Rattle.reach.specs.Mark.{traced_mark}
use Rattle.reach.specs.Tracer.{Tracer}
use Rattle.reach.specs.Sweep.{sweep_once, sweep_taken, traced_in, takes_none, sweep_marks, sweep_count, swept_marks, sweeps}
use Rattle.reach.specs.ClaimsSweep.{EachTakes, last, another, SweepsEach}
use Rattle.reach.proofs.Count.{count_under}
use Rattle.reach.proofs.Sweep.{once_long, one_further}

each : (G : Tracer) (fuel : ℕ) (m : List ℕ) → G.size ≤ length m → G.size < traced_in G m + fuel
    → EachTakes G m (sweep_marks G fuel m) (sweep_count G fuel m)
unfolding sweep_marks sweep_count
each G zero m l h = absurd (omega (arith, count_under traced_mark G.size m))
each G (suc n) m l h =
    by (takes_none G m) refl (λ (k : G.size < traced_in G (sweep_once G m) + n). each G n (sweep_once G m) (once_long G m l) k)
  where
    by : (b : Bool) → takes_none G m ≡ b
        → (G.size < traced_in G (sweep_once G m) + n → EachTakes G (sweep_once G m) (sweep_marks G n (sweep_once G m)) (sweep_count G n (sweep_once G m)))
        → EachTakes G m (cond b m (sweep_marks G n (sweep_once G m))) (suc (cond b 0 (sweep_count G n (sweep_once G m))))
    by true e on = last (eqb-true (sweep_taken G m) 0 e)
    by false e on = another {m = m} (omega (arith, eqb-false (sweep_taken G m) 0 e)) (on (one_further G m l n h e))

pub sweeps_each : SweepsEach
unfolding swept_marks sweeps
sweeps_each G m l = each G (suc G.size) m l (omega arith)
