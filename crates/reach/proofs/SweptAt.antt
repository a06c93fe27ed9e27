-- One position met by a sweep: it can be taken up and is, or cannot and nothing changes. Assumes nothing.
use Prim.Native.Nat.{ℕ, ◌<◌, ◌≤◌}
use native.Mathlib.Omega.{arith}
use mathlib.Core.Bool.{Bool, true, false, cond, ◌&&◌}
use mathlib.Core.Path.{◌≡◌, refl, ap, ◌∙◌}
use mathlib.Core.Logic.{◌⊎◌, inl, inr, ◌≢◌}
use mathlib.Core.List.{List}
use lib.ListN.{length, get_or}
use lib.Dec.{eqb}
use borrow.Author.Tests.{eqb-true, eqb-false}
use Rattle.reach.specs.Mark.{waiting}
use Rattle.reach.specs.Tracer.{Tracer, took}
use Rattle.reach.specs.Takes.{Ready}
use Rattle.reach.specs.Sweep.{can_take, swept_at}
use Rattle.reach.proofs.Cases.{not_both}
use Rattle.reach.proofs.Took.{length_took, Moved, itself, kept, called, moved}

module _ (G : Tracer) (m : List ℕ) (p : ℕ) where
  abbrev pub Met : Type 0
  Met = (Ready G m p × (swept_at G m p ≡ took G m p)) ⊎ ((Ready G m p → ⊥) × (swept_at G m p ≡ m))

  pub met : p < G.size → Met
  unfolding swept_at can_take
  met h = by (eqb (get_or m p 0) waiting) (G.fits p) refl refl
    where
      by : (w f : Bool) → eqb (get_or m p 0) waiting ≡ w → G.fits p ≡ f
          → (Ready G m p × (cond (w && f) (took G m p) m ≡ took G m p)) ⊎ ((Ready G m p → ⊥) × (cond (w && f) (took G m p) m ≡ m))
      by true true e g = inl (record { inside = h; waits = eqb-true (get_or m p 0) waiting e; whole = g }, refl)
      by true false e g = inr (λ r. not_both r.whole g, refl)
      by false f e g = inr (λ r. eqb-false (get_or m p 0) waiting e r.waits, refl)

  pub met_long : Met → G.size ≤ length m → G.size ≤ length (swept_at G m p)
  met_long (inl (r, e)) l = omega (arith, length_took G m p, ap length e)
  met_long (inr (n, e)) l = omega (arith, ap length e)

  -- what else could be taken up can be still
  pub ready_still : (q : ℕ) → G.size ≤ length m → p < G.size → Ready G m q → q ≢ p → Ready G (took G m p) q
  ready_still q l h r ne = record { inside = r.inside; waits = by (moved G m p q l h); whole = r.whole }
    where
      by : Moved G m p q → get_or (took G m p) q 0 ≡ waiting
      by (itself e x) = absurd (ne e)
      by (kept n f x) = x ∙ r.waits
      by (called n i o x) = x
