-- One sweep takes waiting positions up one after the other, upward, and all that could be. Assumes nothing.
use Prim.Native.Nat.{ℕ, zero, suc, ◌+◌, ◌<◌, ◌≤◌}
use native.Mathlib.Omega.{arith}
use mathlib.Core.Path.{subst}
use mathlib.Core.Logic.{inl, inr, ⊎_elim}
use mathlib.Core.List.{List, [], ◌∷◌, Memᴰ as Among}
use lib.ListN.{length}
use Rattle.reach.specs.Tracer.{Tracer, took}
use Rattle.reach.specs.Takes.{Ready, Takes, stay, up}
use Rattle.reach.specs.Sweep.{swept_at, sweep_from, sweep_once}
use Rattle.reach.specs.ClaimsSweep.{Upward, SweepTakes}
use Rattle.reach.proofs.Cases.{eq_or_ne}
use Rattle.reach.proofs.SweptAt.{Met, met, met_long, ready_still}

-- k positions met from p on
record Swept (G : Tracer) (k p : ℕ) (m m' : List ℕ) : Type 0 where
  pub order : List ℕ
  pub takes : Takes G m order m'
  pub upward : Upward p order
  pub all : (q : ℕ) → p ≤ q → q < p + k → Ready G m q → Among q order

upward_from : (p : ℕ) (qs : List ℕ) → Upward (suc p) qs → Upward p qs
upward_from p [] u = u
upward_from p (q ∷ qs) u = (omega (arith, u.0), u.1)

-- p met first, then k more
module _ (G : Tracer) (m : List ℕ) (p k : ℕ) (m' : List ℕ) where
  took_first : G.size ≤ length m → Ready G m p → Swept G k (suc p) (took G m p) m' → Swept G (suc k) p m m'
  took_first l r S = record {
    order = p ∷ S.order;
    takes = up r S.takes;
    upward = (omega arith, S.upward);
    all = λ q a b s. ⊎_elim
        (λ e. Among.head e)
        (λ ne. Among.tail (S.all q (omega arith) (omega arith) (ready_still G m p q l r.inside s ne)))
        (eq_or_ne q p);
  }

  passed_first : (Ready G m p → ⊥) → Swept G k (suc p) m m' → Swept G (suc k) p m m'
  passed_first n S = record {
    order = S.order;
    takes = S.takes;
    upward = upward_from p S.order S.upward;
    all = λ q a b s. ⊎_elim
        (λ e. absurd (n (subst (λ (x : ℕ). Ready G m x) e s)))
        (λ ne. S.all q (omega arith) (omega arith) s)
        (eq_or_ne q p);
  }

  met_first : G.size ≤ length m → Met G m p → Swept G k (suc p) (swept_at G m p) m' → Swept G (suc k) p m m'
  met_first l (inl (r, e)) S = took_first l r (subst (λ (x : List ℕ). Swept G k (suc p) x m') e S)
  met_first l (inr (n, e)) S = passed_first n (subst (λ (x : List ℕ). Swept G k (suc p) x m') e S)

swept_from : (G : Tracer) (k p : ℕ) (m : List ℕ) → G.size ≤ length m → p + k ≤ G.size → Swept G k p m (sweep_from G k p m)
unfolding sweep_from
swept_from G zero p m l h = record { order = []; takes = stay; upward = tt; all = λ q a b. absurd (omega arith) }
swept_from G (suc k) p m l h =
    let t = met G m p (omega arith) in
    met_first G m p k (sweep_from G k (suc p) (swept_at G m p)) l t
    (swept_from G k (suc p) (swept_at G m p) (met_long G m p t l) (omega arith))

pub sweep_takes : SweepTakes
unfolding sweep_once
sweep_takes G m l =
    let S = swept_from G G.size 0 m l (omega arith) in
    record { order = S.order; takes = S.takes; upward = S.upward; all = λ q r. S.all q (omega arith) (omega (arith, r.inside)) r }
