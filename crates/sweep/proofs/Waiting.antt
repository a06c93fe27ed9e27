-- What could be taken up once a position was: what could be before, but it, and what it found. Assumes nothing.
use Prim.Native.Nat.{ℕ, ◌<◌, ◌≤◌}
use native.Mathlib.Omega.{arith}
use mathlib.Core.Path.{◌≡◌, sym, ap, ◌∙◌}
use mathlib.Core.Bool.{true, ◌&&◌}
use mathlib.Core.Logic.{◌⊎◌, inl, inr, ◌≢◌}
use mathlib.Core.List.{List, Memᴰ as Among}
use lib.Dec.{eqb}
use lib.ListN.{length, get_or}
use borrow.Author.Tests.{eqb-true}
use Rattle.instruction.proofs.Ands.{first_part}
use Rattle.reach.specs.Mark.{waiting, IsTraced}
use Rattle.reach.specs.Tracer.{Tracer, mark, took, found}
use Rattle.reach.specs.Sweep.{can_take}
use Rattle.reach.proofs.Took.{Moved, itself, kept, called, moved, mark_traced}
use Rattle.reach.proofs.Found.{called_found}

-- a mark that says traced does not say waiting
traced_waits : (v : ℕ) → IsTraced v → v ≡ waiting → ⊥
traced_waits v (inl e) w = absurd (omega (arith, e, w))
traced_waits v (inr e) w = absurd (omega (arith, e, w))

module _ (G : Tracer) (m : List ℕ) (p : ℕ) (l : G.size ≤ length m) (h : p < G.size) where
  pub still : (q : ℕ) → can_take G (took G m p) q ≡ true → (q ≢ p) × ((can_take G m q ≡ true) ⊎ Among q (found G m p))
  unfolding can_take
  still q e = by (moved G m p q l h)
    where
      waits : get_or (took G m p) q 0 ≡ waiting
      waits = eqb-true (get_or (took G m p) q 0) waiting (first_part (eqb (get_or (took G m p) q 0) waiting) (G.fits q) e)

      by : Moved G m p q → (q ≢ p) × ((can_take G m q ≡ true) ⊎ Among q (found G m p))
      by (itself i x) = absurd (traced_waits (mark G m p) (mark_traced G m p) (sym x ∙ waits))
      by (kept ne f x) = (ne, inl (ap (λ (v : ℕ). eqb v waiting && G.fits q) (sym x) ∙ e))
      by (called ne i o x) = (ne, inr (called_found G m p l h q ne i o))
