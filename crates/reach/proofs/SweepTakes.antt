-- The sweeps are one of the orders, and one sweep more than there are positions leads it to an end. Assumes nothing.
use Prim.Native.Nat.{zero, suc}
use native.Mathlib.Omega.{arith}
use mathlib.Core.Bool.{Bool, true, false, cond}
use mathlib.Core.Path.{◌≡◌, refl}
use mathlib.Core.List.{[], ◌++◌}
use Rattle.reach.specs.Note.{note}
use Rattle.reach.specs.Takes.{stay}
use Rattle.reach.specs.Sweep.{sweep_once, takes_none, sweep_marks}
use Rattle.reach.specs.ClaimsSweep.{Sweeps, SweepsTake, SweepsToEnd}
use Rattle.reach.proofs.Start.{start_long}
use Rattle.reach.proofs.Takes.{takes_append, takes_count}
use Rattle.reach.proofs.Swept.{sweep_takes}
use Rattle.reach.proofs.Sweep.{once_long, sweeps_end}

pub sweeps_take : SweepsTake
unfolding sweep_marks
sweeps_take G zero m l = record { order = []; takes = stay; counted = omega arith }
sweeps_take G (suc n) m l = by (takes_none G m) refl (sweeps_take G n (sweep_once G m) (once_long G m l))
  where
    by : (b : Bool) → takes_none G m ≡ b → Sweeps G (sweep_once G m) (sweep_marks G n (sweep_once G m))
        → Sweeps G m (cond b m (sweep_marks G n (sweep_once G m)))
    by true e S = record { order = []; takes = stay; counted = omega arith }
    by false e S =
        let O = sweep_takes G m l in
        let t = takes_append O.takes S.takes in
        record {
          order = O.order ++ S.order;
          takes = t;
          counted = takes_count l t;
        }

pub sweeps_to_end : SweepsToEnd
sweeps_to_end fuel G entries base B h =
    let m = note G.size entries base in
    let S = sweeps_take G fuel m (start_long G entries base B) in
    record { order = S.order; takes = S.takes; ended = sweeps_end G fuel m (start_long G entries base B) h }
