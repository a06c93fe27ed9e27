-- What a run from a queue comes to, and its three ends. Assumes nothing.
use Prim.Native.Nat.{ℕ, suc, ◌+◌, ◌<◌, ◌≤◌, zero-le}
use native.Mathlib.Omega.{arith}
use mathlib.Core.Bool.{false}
use mathlib.Core.Path.{◌≡◌, refl, subst}
use mathlib.Core.List.{List, [], ◌∷◌}
use lib.ListN.{length, take}
use Rattle.reach.specs.Mark.{count}
use Rattle.reach.specs.Tracer.{Tracer}
use Rattle.reach.specs.Takes.{Takes, stay}
use Rattle.reach.specs.Run.{finished, stopped, cut_off, Outcome, steps, run_from}
use Rattle.reach.proofs.Count.{touched}
use Rattle.reach.proofs.RunLaws.{run_finished, run_stopped, run_cut}
use Rattle.reach.proofs.Line.{Line}

-- p is the first of what is left, and cut off
pub record CutNext (G : Tracer) (left : List ℕ) (p : ℕ) : Type 0 where
  pub cut : G.fits p ≡ false
  pub queue : List ℕ
  pub next : left ≡ p ∷ queue

-- The run from this queue and these marks: what it took up, what is left, how it ended, and how many there are of each
pub record Went (limit : ℕ) (G : Tracer) (queue m : List ℕ) (out : Outcome) : Type 0 where
  pub takes : Takes G m out.taken out.marks
  pub line : Line G out.marks out.left
  pub in_limit : steps out ≤ limit
  pub over : out.end ≡ finished → out.left ≡ []
  pub short : out.end ≡ stopped → (steps out ≡ limit) × (0 < length out.left)
  pub broken : (p : ℕ) → out.end ≡ cut_off p → CutNext G out.left p
  pub sum : steps out + length out.left + count touched (take G.size m) ≡ length queue + count touched (take G.size out.marks)

module _ (G : Tracer) (m : List ℕ) where
  -- nothing waiting
  pub went_finished : (limit : ℕ) → Line G m [] → Went limit G [] m (run_from limit G [] m)
  went_finished limit L = rw (run_finished G limit m) (record {
    takes = stay;
    line = L;
    in_limit = zero-le;
    over = λ e. refl;
    short = λ e. let z : ◌≡◌ {A = ℕ} 0 1 = cc in absurd (omega arith);
    broken = λ p e. let z : ◌≡◌ {A = ℕ} 0 1 = cc in absurd (omega arith);
    sum = omega arith;
  })

  module _ (p : ℕ) (queue : List ℕ) (L : Line G m (p ∷ queue)) where
    -- limit used up
    pub went_stopped : Went 0 G (p ∷ queue) m (run_from 0 G (p ∷ queue) m)
    went_stopped = rw (run_stopped G p queue m) (record {
      takes = stay;
      line = L;
      in_limit = zero-le;
      over = λ e. let z : ◌≡◌ {A = ℕ} 0 1 = cc in absurd (omega arith);
      short = λ e. (refl, omega arith);
      broken = λ q e. let z : ◌≡◌ {A = ℕ} 0 1 = cc in absurd (omega arith);
      sum = omega arith;
    })

    -- instruction cut off
    pub went_cut : (limit : ℕ) → G.fits p ≡ false → Went (suc limit) G (p ∷ queue) m (run_from (suc limit) G (p ∷ queue) m)
    went_cut limit f = rw (run_cut G p queue m limit f) (record {
      takes = stay;
      line = L;
      in_limit = zero-le;
      over = λ e. let z : ◌≡◌ {A = ℕ} 0 1 = cc in absurd (omega arith);
      short = λ e. let z : ◌≡◌ {A = ℕ} 0 1 = cc in absurd (omega arith);
      broken = λ q e. let x : p ≡ q = cc in subst (λ (y : ℕ). CutNext G (p ∷ queue) y) x (record { cut = f; queue = queue; next = refl });
      sum = omega arith;
    })
