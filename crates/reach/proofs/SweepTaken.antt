-- What a sweep took is what became traced in it, and one that takes none changes nothing. Assumes nothing.
use Prim.Native.Nat.{ℕ, zero, suc, ◌+◌, ◌≤◌}
use native.Mathlib.Omega.{arith}
use mathlib.Core.Path.{◌≡◌, refl}
use mathlib.Core.Bool.{Bool, true, false, cond, ◌&&◌}
use mathlib.Core.List.{List}
use lib.Dec.{eqb}
use lib.ListN.{length, get_or}
use borrow.Author.Tests.{eqb-true}
use Rattle.reach.specs.Mark.{waiting}
use Rattle.reach.specs.Tracer.{Tracer, took}
use Rattle.reach.specs.Takes.{Ready}
use Rattle.reach.specs.Sweep.{can_take, swept_at, sweep_from, sweep_taken_from, sweep_once, sweep_taken, traced_in}
use Rattle.reach.proofs.Cases.{not_both}
use Rattle.reach.proofs.Took.{count_took, length_took}

module _ (G : Tracer) where
  pub length_swept : (m : List ℕ) (p : ℕ) → length (swept_at G m p) ≡ length m
  unfolding swept_at
  length_swept m p = by (can_take G m p)
    where
      by : (b : Bool) → length (cond b (took G m p) m) ≡ length m
      by true = length_took G m p
      by false = refl

  ripe_ready : (m : List ℕ) (p : ℕ) → suc p ≤ G.size → can_take G m p ≡ true → Ready G m p
  unfolding can_take
  ripe_ready m p h e = by (eqb (get_or m p 0) waiting) (G.fits p) refl refl e
    where
      by : (w f : Bool) → eqb (get_or m p 0) waiting ≡ w → G.fits p ≡ f → (w && f) ≡ true → Ready G m p
      by true true a b t = record { inside = h; waits = eqb-true (get_or m p 0) waiting a; whole = b }
      by true false a b t = absurd (not_both t refl)
      by false f a b t = absurd (not_both t refl)

  one_more_lem : (m : List ℕ) (p : ℕ) → suc p ≤ G.size → G.size ≤ length m → traced_in G (swept_at G m p) ≡ traced_in G m + cond (can_take G m p) 1 0
  unfolding swept_at
  one_more_lem m p h l = by (can_take G m p) refl
    where
      by : (b : Bool) → can_take G m p ≡ b → traced_in G (cond b (took G m p) m) ≡ traced_in G m + cond b 1 0
      by true e = omega (arith, count_took G m p l (ripe_ready m p h e))
      by false e = omega arith

  from_here : (k p : ℕ) (m : List ℕ) → p + k ≤ G.size → G.size ≤ length m → traced_in G (sweep_from G k p m) ≡ traced_in G m + sweep_taken_from G k p m
  unfolding sweep_from sweep_taken_from
  from_here zero p m h l = omega arith
  from_here (suc k) p m h l =
      omega (arith, from_here k (suc p) (swept_at G m p) (omega arith) (omega (arith, length_swept m p)), one_more_lem m p (omega arith) l)

  pub taken_done : (m : List ℕ) → G.size ≤ length m → traced_in G (sweep_once G m) ≡ traced_in G m + sweep_taken G m
  unfolding sweep_once sweep_taken
  taken_done m l = from_here G.size 0 m (omega arith) l

  none_from : (k p : ℕ) (m : List ℕ) → sweep_taken_from G k p m ≡ 0 → sweep_from G k p m ≡ m
  unfolding sweep_from sweep_taken_from swept_at
  none_from zero p m e = refl
  none_from (suc k) p m e = by (can_take G m p) e (none_from k (suc p) m)
    where
      by : (b : Bool) → cond b 1 0 + sweep_taken_from G k (suc p) (cond b (took G m p) m) ≡ 0 → (sweep_taken_from G k (suc p) m ≡ 0 → sweep_from G k (suc p) m ≡ m)
          → sweep_from G k (suc p) (cond b (took G m p) m) ≡ m
      by true f rest = absurd (omega (arith, f))
      by false f rest = rest (omega (arith, f))

  pub none_taken : (m : List ℕ) → sweep_taken G m ≡ 0 → sweep_once G m ≡ m
  unfolding sweep_once sweep_taken
  none_taken m e = none_from G.size 0 m e
