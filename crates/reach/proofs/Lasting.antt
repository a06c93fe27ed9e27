-- What every taking keeps, where the exception goes by what is traced: a traced position fits, the targets that it had are no longer open, and
-- one with mark 3 is under the exception still. So the targets that it would have now are among those that it had. Assumes nothing.
use Prim.Native.Nat.{ℕ, ◌<◌, ◌≤◌}
use native.Mathlib.Omega.{arith}
use mathlib.Core.Bool.{Bool, true, false, cond}
use mathlib.Core.Path.{◌≡◌, refl, sym, ap, subst, ◌∙◌}
use mathlib.Core.Logic.{inl, inr}
use mathlib.Core.List.Memᴰ
use mathlib.Core.List.{List, [], Memᴰ as Among}
use lib.ListN.{length, get_or}
use lib.Dec.{eqb}
use Rattle.reach.specs.Mark.{traced, flash, IsTraced}
use Rattle.reach.specs.Note.{Open}
use Rattle.reach.specs.Tracer.{Tracer, targets, mark, took, held}
use Rattle.reach.specs.Takes.{Ready, stay}
use Rattle.reach.specs.ClaimsWorklist.{TracedToo, ByTraced}
use Rattle.reach.proofs.Exempt.{targets_exempt}
use Rattle.reach.proofs.Mark.{live_ne, waits_not}
use Rattle.reach.proofs.Took.{mark_traced, Moved, itself, kept, called, moved}
use Rattle.reach.proofs.TakesAt.{took_traced, still_long}
use Rattle.reach.proofs.TakesOnce.{targets_held}

-- the targets read from a mark
module _ (G : Tracer) (m : List ℕ) (p : ℕ) where
  pub held_by : (m' : List ℕ) → get_or m p 0 ≡ get_or m' p 0 → held G m p ≡ held G m' p
  unfolding held
  held_by m' e = ap (λ (v : ℕ). cond (eqb v flash) [] (G.ways p)) e

  pub held_plain : get_or m p 0 ≡ traced → held G m p ≡ G.ways p
  unfolding held
  held_plain e = ap (λ (v : ℕ). cond (eqb v flash) [] (G.ways p)) e

  pub held_flash : get_or m p 0 ≡ flash → held G m p ≡ []
  unfolding held
  held_flash e = ap (λ (v : ℕ). cond (eqb v flash) [] (G.ways p)) e

-- mark 3 is given under the exception alone
flash_exempt : (G : Tracer) (m : List ℕ) (p : ℕ) → mark G m p ≡ flash → G.exempt m p ≡ true
unfolding mark
flash_exempt G m p e = by (G.exempt m p) e
  where
    by : (b : Bool) → cond b flash traced ≡ flash → b ≡ true
    by true x = refl
    by false x = absurd (omega arith)

pub record Lasting (G : Tracer) (m : List ℕ) : Type 0 where
  pub long : G.size ≤ length m
  pub whole : (p : ℕ) → p < G.size → IsTraced (get_or m p 0) → G.fits p ≡ true
  pub shut : (p q : ℕ) → p < G.size → IsTraced (get_or m p 0) → Among q (held G m p) → Open G.size m q → ⊥
  pub still : (p : ℕ) → p < G.size → get_or m p 0 ≡ flash → G.exempt m p ≡ true

-- the targets that a traced position would have now
pub targets_lasting : (G : Tracer) (m : List ℕ) (p q : ℕ) → Lasting G m → p < G.size → IsTraced (get_or m p 0)
    → Among q (targets G m p) → Among q (held G m p)
unfolding targets
targets_lasting G m p q K h (inl e) i = rw (held_plain G m p e) (by (G.exempt m p) i)
  where
    by : (b : Bool) → Among q (cond b [] (G.ways p)) → Among q (G.ways p)
    by true j = absurd (Memᴰ.not-nil j)
    by false j = j
targets_lasting G m p q K h (inr e) i = absurd (Memᴰ.not-nil (rw (targets_exempt G m p (K.still p h e)) at i))

module _ (G : Tracer) (T : ByTraced G) (m : List ℕ) (p : ℕ) (K : Lasting G m) (R : Ready G m p) where
  at : (q : ℕ) → Moved G m p q
  at q = moved G m p q K.long R.inside

  pub traced_too : TracedToo G m (took G m p)
  traced_too q h t = subst IsTraced (sym (took_traced G m p K.long R q t)) t

  -- the targets that p had
  pub held_itself : held G (took G m p) p ≡ targets G m p
  held_itself = targets_held G m (took G m p) [] p K.long R stay

  was_open : (q : ℕ) → Open G.size (took G m p) q → Moved G m p q → Open G.size m q
  was_open q o (itself e x) = absurd (live_ne (inr (mark_traced G m p)) (sym x ∙ o.clear))
  was_open q o (kept ne f x) = record { inside = o.inside; clear = sym x ∙ o.clear }
  was_open q o (called ne i u x) = u

  led : (q : ℕ) → Among q (targets G m p) → Open G.size (took G m p) q → Moved G m p q → ⊥
  led q i o (itself e x) = live_ne (inr (mark_traced G m p)) (sym x ∙ o.clear)
  led q i o (kept ne f x) = f i (record { inside = o.inside; clear = sym x ∙ o.clear })
  led q i o (called ne j u x) = omega (arith, o.clear)

  whole_on : (a : ℕ) → a < G.size → IsTraced (get_or (took G m p) a 0) → Moved G m p a → G.fits a ≡ true
  whole_on a h t (itself e x) = ap G.fits e ∙ R.whole
  whole_on a h t (kept ne f x) = K.whole a h (subst IsTraced x t)
  whole_on a h t (called ne i u x) = absurd (waits_not x t)

  shut_on : (a q : ℕ) → a < G.size → IsTraced (get_or (took G m p) a 0) → Among q (held G (took G m p) a) → Open G.size (took G m p) q
      → Moved G m p a → ⊥
  shut_on a q h t i o (itself e x) = led q (rw held_itself at (subst (λ (y : ℕ). Among q (held G (took G m p) y)) e i)) o (at q)
  shut_on a q h t i o (kept ne f x) = K.shut a q h (subst IsTraced x t) (rw (held_by G (took G m p) a m x) at i) (was_open q o (at q))
  shut_on a q h t i o (called ne j u x) = waits_not x t

  still_on : (a : ℕ) → a < G.size → get_or (took G m p) a 0 ≡ flash → Moved G m p a → G.exempt m a ≡ true
  still_on a h w (itself e x) = ap (G.exempt m) e ∙ flash_exempt G m p (sym x ∙ w)
  still_on a h w (kept ne f x) = K.still a h (sym x ∙ w)
  still_on a h w (called ne i u x) = absurd (omega arith)

  pub lasting_on : Lasting G (took G m p)
  lasting_on = record {
    long = still_long G m p K.long R;
    whole = λ a h t. whole_on a h t (at a);
    shut = λ a q h t i o. shut_on a q h t i o (at a);
    still = λ a h w. T.still m (took G m p) a h traced_too (still_on a h w (at a));
  }
