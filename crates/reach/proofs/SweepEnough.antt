-- Enough sweeps are enough: more give the same marks and are as many. Assumes nothing.
use Prim.Native.Nat.{ℕ, zero, suc, ◌+◌, ◌<◌, ◌≤◌}
use native.Mathlib.Omega.{arith}
use mathlib.Core.Bool.{Bool, true, false, cond}
use mathlib.Core.Path.{◌≡◌, refl, ap}
use mathlib.Core.List.{List}
use lib.ListN.{length}
use Rattle.reach.specs.Mark.{traced_mark}
use Rattle.reach.specs.Tracer.{Tracer}
use Rattle.reach.specs.Sweep.{sweep_once, traced_in, takes_none, sweep_marks, sweep_count}
use Rattle.reach.specs.ClaimsSweep.{SweepsEnough}
use Rattle.reach.proofs.Count.{count_under}
use Rattle.reach.proofs.Sweep.{once_long, one_further}

module _ (G : Tracer) where
  abbrev Same : ℕ → ℕ → List ℕ → Type 0
  Same fuel fuel' m = (sweep_marks G fuel m ≡ sweep_marks G fuel' m) × (sweep_count G fuel m ≡ sweep_count G fuel' m)

  same : (fuel fuel' : ℕ) (m : List ℕ) → G.size ≤ length m → G.size < traced_in G m + fuel → G.size < traced_in G m + fuel'
      → Same fuel fuel' m
  unfolding sweep_marks sweep_count
  same zero fuel' m l h h' = absurd (omega (arith, count_under traced_mark G.size m))
  same (suc n) zero m l h h' = absurd (omega (arith, count_under traced_mark G.size m))
  same (suc n) (suc k) m l h h' =
      by (takes_none G m) refl
      (λ (i : G.size < traced_in G m₁ + n) (j : G.size < traced_in G m₁ + k). same n k m₁ (once_long G m l) i j)
    where
      m₁ : List ℕ
      m₁ = sweep_once G m

      by : (b : Bool) → takes_none G m ≡ b → (G.size < traced_in G m₁ + n → G.size < traced_in G m₁ + k → Same n k m₁)
          → (cond b m (sweep_marks G n m₁) ≡ cond b m (sweep_marks G k m₁))
          × (suc (cond b 0 (sweep_count G n m₁)) ≡ suc (cond b 0 (sweep_count G k m₁)))
      by true e on = (refl, refl)
      by false e on = let r = on (one_further G m l n h e) (one_further G m l k h' e) in (r.0, ap suc r.1)

pub sweeps_enough : SweepsEnough
sweeps_enough G fuel fuel' m l h h' = same G fuel fuel' m l (omega arith) (omega arith)
