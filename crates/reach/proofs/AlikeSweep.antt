-- Targets count only where the instruction fits: sweeps. Assumes nothing.
use Prim.Native.Nat.{ℕ, zero, suc, ◌+◌}
use mathlib.Core.Bool.{Bool, true, false, cond, ◌&&◌}
use mathlib.Core.Path.{◌≡◌, refl, ap, ◌∙◌}
use mathlib.Core.List.{List}
use lib.Dec.{eqb}
use lib.ListN.{get_or}
use Rattle.reach.specs.Mark.{waiting}
use Rattle.reach.specs.Tracer.{Tracer, took}
use Rattle.reach.specs.Sweep.{can_take, swept_at, sweep_from, sweep_taken_from, sweep_once, sweep_taken, takes_none, traced_in}
use Rattle.reach.specs.Sweep.{sweep_marks, sweep_count, enough, swept_marks, sweeps, swept_steps}
use Rattle.reach.specs.ClaimsAlike.{with_ways, SameWays, AlikeSweeps}
use Rattle.reach.proofs.Alike.{alike_takings}

module _ (G : Tracer) (w : ℕ → List ℕ) (s : SameWays G w) where
  abbrev H : Tracer
  H = with_ways G w

  met_alike : (m : List ℕ) (p : ℕ) → swept_at H m p ≡ swept_at G m p
  unfolding swept_at can_take
  met_alike m p = by (eqb (get_or m p 0) waiting) (G.fits p) (λ f. (alike_takings G w s m p f).alike_took)
    where
      by : (a b : Bool) → (b ≡ true → took H m p ≡ took G m p) → cond (a && b) (took H m p) m ≡ cond (a && b) (took G m p) m
      by true true e = e refl
      by true false e = refl
      by false true e = refl
      by false false e = refl

  from_alike : (k p : ℕ) (m : List ℕ) → sweep_from H k p m ≡ sweep_from G k p m
  unfolding sweep_from
  from_alike zero p m = refl
  from_alike (suc k) p m = ap (λ (l : List ℕ). sweep_from H k (suc p) l) (met_alike m p) ∙ from_alike k (suc p) (swept_at G m p)

  taken_alike : (k p : ℕ) (m : List ℕ) → sweep_taken_from H k p m ≡ sweep_taken_from G k p m
  unfolding sweep_taken_from can_take
  taken_alike zero p m = refl
  taken_alike (suc k) p m =
      ap (λ (n : ℕ). cond (can_take G m p) 1 0 + n)
      (ap (λ (l : List ℕ). sweep_taken_from H k (suc p) l) (met_alike m p) ∙ taken_alike k (suc p) (swept_at G m p))

  once_alike : (m : List ℕ) → sweep_once H m ≡ sweep_once G m
  unfolding sweep_once
  once_alike m = from_alike G.size 0 m

  none_alike : (m : List ℕ) → takes_none H m ≡ takes_none G m
  unfolding sweep_taken
  none_alike m = ap (λ (n : ℕ). eqb n 0) (taken_alike G.size 0 m)

  marks_alike : (most : ℕ) (m : List ℕ) → sweep_marks H most m ≡ sweep_marks G most m
  unfolding sweep_marks
  marks_alike zero m = refl
  marks_alike (suc most) m =
      ap (λ (b : Bool). cond b m (sweep_marks H most (sweep_once H m))) (none_alike m)
      ∙ ap (λ (l : List ℕ). cond (takes_none G m) m l)
      (ap (λ (l : List ℕ). sweep_marks H most l) (once_alike m) ∙ marks_alike most (sweep_once G m))

  count_alike : (most : ℕ) (m : List ℕ) → sweep_count H most m ≡ sweep_count G most m
  unfolding sweep_count
  count_alike zero m = refl
  count_alike (suc most) m =
      ap (λ (b : Bool). suc (cond b 0 (sweep_count H most (sweep_once H m)))) (none_alike m)
      ∙ ap (λ (n : ℕ). suc (cond (takes_none G m) 0 n))
      (ap (λ (l : List ℕ). sweep_count H most l) (once_alike m) ∙ count_alike most (sweep_once G m))

pub alike_sweeps : AlikeSweeps
unfolding swept_marks sweeps swept_steps
alike_sweeps G w s m = record {
  alike_marks = marks_alike G w s (enough G) m;
  alike_sweeps = count_alike G w s (enough G) m;
  alike_steps = ap (λ (l : List ℕ). traced_in G l) (marks_alike G w s (enough G) m);
}
