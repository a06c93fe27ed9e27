-- How a position comes out of a sequence of takings: what is traced stays, and what was taken up is what is traced. Assumes nothing.
use Prim.Native.Nat.{ℕ, ◌<◌, ◌≤◌}
use native.Mathlib.Omega.{arith}
use mathlib.Core.Path.{◌≡◌, refl, sym, ap, subst, ◌∙◌}
use mathlib.Core.Logic.{◌⊎◌, inl, inr, ⊎_elim}
use mathlib.Core.List.Memᴰ
use mathlib.Core.List.{List, Memᴰ as Among}
use lib.ListN.{length, get_or}
use Rattle.reach.specs.Mark.{IsTraced}
use Rattle.reach.specs.Tracer.{Tracer, mark, took}
use Rattle.reach.specs.Takes.{Ready, Takes, stay, up}
use Rattle.reach.proofs.Mark.{live_ne, waits_not}
use Rattle.reach.proofs.Took.{mark_traced, length_took, Moved, itself, kept, called, moved}

-- one taking: p gets its mark, and a traced mark stays
module _ (G : Tracer) (m : List ℕ) (p : ℕ) (l : G.size ≤ length m) (R : Ready G m p) where
  pub took_itself : get_or (took G m p) p 0 ≡ mark G m p
  took_itself = by (moved G m p p l R.inside)
    where
      by : Moved G m p p → get_or (took G m p) p 0 ≡ mark G m p
      by (itself e x) = x
      by (kept ne f x) = absurd (ne refl)
      by (called ne i o x) = absurd (ne refl)

  pub took_traced : (q : ℕ) → IsTraced (get_or m q 0) → get_or (took G m p) q 0 ≡ get_or m q 0
  took_traced q t = by (moved G m p q l R.inside)
    where
      by : Moved G m p q → get_or (took G m p) q 0 ≡ get_or m q 0
      by (itself e x) = absurd (waits_not (ap (λ (y : ℕ). get_or m y 0) e ∙ R.waits) t)
      by (kept ne f x) = x
      by (called ne i o x) = absurd (live_ne (inr t) o.clear)

  -- what is traced afterwards was before, or is p
  pub traced_took : (q : ℕ) → IsTraced (get_or (took G m p) q 0) → (q ≡ p) ⊎ IsTraced (get_or m q 0)
  traced_took q t = by (moved G m p q l R.inside)
    where
      by : Moved G m p q → (q ≡ p) ⊎ IsTraced (get_or m q 0)
      by (itself e x) = inl e
      by (kept ne f x) = inr (subst IsTraced x t)
      by (called ne i o x) = absurd (waits_not x t)

  pub still_long : G.size ≤ length (took G m p)
  still_long = omega (arith, length_took G m p)

  pub itself_traced : IsTraced (get_or (took G m p) p 0)
  itself_traced = subst IsTraced (sym took_itself) (mark_traced G m p)

pub traced_stays : {G : Tracer} {m m' ps : List ℕ} (q : ℕ) → G.size ≤ length m → Takes G m ps m'
    → IsTraced (get_or m q 0) → get_or m' q 0 ≡ get_or m q 0
traced_stays q l stay t = refl
traced_stays {G} q l (up {m = m} {p = p} R u) t =
    let e = took_traced G m p l R q t in
    traced_stays q (still_long G m p l R) u (subst IsTraced (sym e) t) ∙ e

-- what was taken up lies inside and is traced
pub taken_traced : {G : Tracer} {m m' ps : List ℕ} (q : ℕ) → G.size ≤ length m → Takes G m ps m'
    → Among q ps → (q < G.size) × IsTraced (get_or m' q 0)
taken_traced q l stay i = absurd (Memᴰ.not-nil i)
taken_traced {G} {m' = m'} q l (up {m = m} {p = p} R u) i =
    ⊎_elim
    (λ e. subst (λ (y : ℕ). (y < G.size) × IsTraced (get_or m' y 0)) (sym e)
    (R.inside, subst IsTraced (sym (traced_stays p (still_long G m p l R) u (itself_traced G m p l R))) (itself_traced G m p l R)))
    (λ j. taken_traced q (still_long G m p l R) u j)
    (Memᴰ.cases_cons i)

-- and what is traced was at the start, or was taken up
pub traced_taken : {G : Tracer} {m m' ps : List ℕ} (q : ℕ) → G.size ≤ length m → Takes G m ps m'
    → IsTraced (get_or m' q 0) → IsTraced (get_or m q 0) ⊎ Among q ps
traced_taken q l stay t = inl t
traced_taken {G} q l (up {m = m} {p = p} R u) t =
    ⊎_elim (λ t'. ⊎_elim (λ e. inr (Among.head e)) (λ t''. inl t'') (traced_took G m p l R q t')) (λ i. inr (Among.tail i))
    (traced_taken q (still_long G m p l R) u t)
