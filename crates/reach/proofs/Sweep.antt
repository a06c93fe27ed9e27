-- Sweeps take positions up until none can be: each but the last traces one more. Assumes nothing.
use Prim.Native.Nat.{ℕ, zero, suc, ◌+◌, ◌<◌, ◌≤◌}
use native.Mathlib.Omega.{arith}
use mathlib.Core.Bool.{Bool, true, false, cond}
use mathlib.Core.Path.{◌≡◌, refl}
use mathlib.Core.List.Memᴰ
use mathlib.Core.List.{List, [], ◌∷◌, Memᴰ as Among}
use lib.ListN.{length}
use borrow.Author.Tests.{eqb-true, eqb-false}
use Rattle.reach.specs.Mark.{traced_mark}
use Rattle.reach.specs.Tracer.{Tracer}
use Rattle.reach.specs.Takes.{Ended}
use Rattle.reach.specs.Sweep.{sweep_once, sweep_taken, traced_in, takes_none, sweep_marks}
use Rattle.reach.specs.ClaimsSweep.{OneSweep, SweepCounts, SweepsEnd}
use Rattle.reach.proofs.SweepTaken.{taken_done}
use Rattle.reach.proofs.Count.{count_under}
use Rattle.reach.proofs.Takes.{length_takes, takes_count}
use Rattle.reach.proofs.Swept.{sweep_takes}

-- one sweep, by the test
module _ (G : Tracer) (m : List ℕ) (l : G.size ≤ length m) where
  abbrev S : OneSweep G m (sweep_once G m)
  S = sweep_takes G m l

  pub once_long : G.size ≤ length (sweep_once G m)
  once_long = omega (arith, length_takes S.takes)

  once_count : traced_in G (sweep_once G m) ≡ traced_in G m + length S.order
  once_count = takes_count l S.takes

  -- the last: none could be taken up
  last_ended : takes_none G m ≡ true → Ended G m
  last_ended e p r =
      in_none S.order (omega (arith, once_count, taken_done G m l, eqb-true (sweep_taken G m) 0 e)) (S.all p r)
    where
      in_none : (ps : List ℕ) → length ps ≡ 0 → Among p ps → ⊥
      in_none [] z i = Memᴰ.not-nil i
      in_none (q ∷ qs) z i = omega arith

  -- another: at least one was
  pub further_takes : takes_none G m ≡ false → 0 < length S.order
  further_takes e = omega (arith, once_count, taken_done G m l, eqb-false (sweep_taken G m) 0 e)

  -- so one sweep less is left to do
  pub one_further : (n : ℕ) → G.size < traced_in G m + suc n → takes_none G m ≡ false → G.size < traced_in G (sweep_once G m) + n
  one_further n h e = omega (arith, once_count, further_takes e)

-- by how many are traced already
ends : (G : Tracer) (fuel : ℕ) (m : List ℕ) → G.size ≤ length m → G.size < traced_in G m + fuel → Ended G (sweep_marks G fuel m)
unfolding sweep_marks
ends G zero m l h = absurd (omega (arith, count_under traced_mark G.size m))
ends G (suc n) m l h = by (takes_none G m) refl (λ (k : G.size < traced_in G (sweep_once G m) + n). ends G n (sweep_once G m) (once_long G m l) k)
  where
    by : (b : Bool) → takes_none G m ≡ b → (G.size < traced_in G (sweep_once G m) + n → Ended G (sweep_marks G n (sweep_once G m)))
        → Ended G (cond b m (sweep_marks G n (sweep_once G m)))
    by true e on = last_ended G m l e
    by false e on = on (one_further G m l n h e)

pub sweep_counts : SweepCounts
sweep_counts G m l = taken_done G m l

pub sweeps_end : SweepsEnd
sweeps_end G fuel m l h = ends G fuel m l (omega arith)
