-- From every table an end can be reached: a position that can be taken up is found by search, and each taking leaves one less. Assumes nothing.
use Prim.Native.Nat.{ℕ, zero, suc, ◌+◌, ◌<◌, ◌≤◌}
use native.Mathlib.Omega.{arith}
use native.Mathlib.Nat.{not-suc-le-zero}
use mathlib.Core.Bool.{true, false}
use mathlib.Core.Path.{◌≡◌, subst}
use mathlib.Core.Logic.{◌⊎◌, inl, inr, ⊎_elim}
use mathlib.Core.List.{List, [], ◌∷◌}
use lib.ListN.{length, get_or, take}
use Rattle.reach.specs.Mark.{waiting, traced_mark, count}
use Rattle.reach.specs.Tracer.{Tracer, took}
use Rattle.reach.specs.Takes.{Ready, Takes, stay, up, Ended}
use Rattle.reach.specs.ClaimsTakes.{CanEnd}
use Rattle.reach.proofs.Cases.{eq_or_ne, lt_or_le, yes_or_no, Decided, not_both}
use Rattle.reach.proofs.Count.{count_under}
use Rattle.reach.proofs.Took.{length_took, count_took}

module _ (G : Tracer) (m : List ℕ) where
  ready_or_not : (p : ℕ) → Decided (Ready G m p)
  ready_or_not p = by (lt_or_le p G.size) (eq_or_ne (get_or m p 0) waiting) (yes_or_no (G.fits p))
    where
      by : (p < G.size) ⊎ (G.size ≤ p) → Decided (get_or m p 0 ≡ waiting) → (G.fits p ≡ true) ⊎ (G.fits p ≡ false) → Decided (Ready G m p)
      by (inr h) w f = inr (λ r. omega (arith, r.inside))
      by (inl h) (inr w) f = inr (λ r. w r.waits)
      by (inl h) (inl w) (inl f) = inl (record { inside = h; waits = w; whole = f })
      by (inl h) (inl w) (inr f) = inr (λ r. not_both r.whole f)

  -- one, or none below k
  abbrev Searched : ℕ → Type 0
  Searched k = ((p : ℕ) × Ready G m p) ⊎ ((p : ℕ) → p < k → Ready G m p → ⊥)

  ready_below : (k : ℕ) → Searched k
  ready_below zero = inr (λ p h r. not-suc-le-zero h)
  ready_below (suc k) = by (ready_below k) (ready_or_not k)
    where
      by : Searched k → Decided (Ready G m k) → Searched (suc k)
      by (inl w) d = inl w
      by (inr f) (inl r) = inl (k, r)
      by (inr f) (inr g) = inr (λ p h r. ⊎_elim (λ e. g (subst (λ (x : ℕ). Ready G m x) e r)) (λ ne. f p (omega arith) r) (eq_or_ne p k))

  pub ready_or_ended : ((p : ℕ) × Ready G m p) ⊎ Ended G m
  ready_or_ended = ⊎_elim (λ w. inl w) (λ f. inr (λ p r. f p r.inside r)) (ready_below G.size)

-- an end that can be reached from m
abbrev Reached : Tracer → List ℕ → Type 0
Reached G m = (ps : List ℕ) × (m' : List ℕ) × Takes G m ps m' × Ended G m'

-- as often as positions are left that are not traced
lead : (G : Tracer) (k : ℕ) (m : List ℕ) → G.size ≤ length m → G.size ≤ count traced_mark (take G.size m) + k → Reached G m
lead G zero m l h = by (ready_or_ended G m)
  where
    by : ((p : ℕ) × Ready G m p) ⊎ Ended G m → Reached G m
    by (inl w) = absurd (omega (arith, count_took G m w.0 l w.1, count_under traced_mark G.size (took G m w.0)))
    by (inr E) = ([], m, stay, E)
lead G (suc k) m l h =
    by (ready_or_ended G m)
    (λ (m' : List ℕ) (l' : G.size ≤ length m') (h' : G.size ≤ count traced_mark (take G.size m') + k). lead G k m' l' h')
  where
    by : ((p : ℕ) × Ready G m p) ⊎ Ended G m
        → ((m' : List ℕ) → G.size ≤ length m' → G.size ≤ count traced_mark (take G.size m') + k → Reached G m') → Reached G m
    by (inl w) on =
        let r = on (took G m w.0) (omega (arith, length_took G m w.0)) (omega (arith, count_took G m w.0 l w.1)) in
        (w.0 ∷ r.0, r.1, up w.1 r.2, r.3)
    by (inr E) on = ([], m, stay, E)

pub can_end : CanEnd
can_end G m l = lead G G.size m l (omega arith)
