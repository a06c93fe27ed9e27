-- What holds of the marks holds after each taking. Assumes nothing.
use Prim.Native.Nat.{ℕ, ◌<◌}
use native.Mathlib.Omega.{arith}
use mathlib.Core.Path.{◌≡◌, sym, ap, subst, ◌∙◌}
use mathlib.Core.Logic.{inl, inr, ◌≢◌}
use mathlib.Core.List.{List, Memᴰ as Among}
use lib.ListN.{get_or}
use Rattle.reach.specs.Mark.{IsTraced}
use Rattle.reach.specs.Note.{Open, note}
use Rattle.reach.specs.Tracer.{Tracer, targets, took}
use Rattle.reach.specs.Takes.{Ready, Takes, stay, up, Base}
use Rattle.reach.specs.Reach.{Reach, target}
use Rattle.reach.specs.ClaimsBetween.{Within}
use Rattle.reach.proofs.Mark.{live_ne, waits_not}
use Rattle.reach.proofs.Sound.{Why, of_base, waits, done, Sound, start_sound}
use Rattle.reach.proofs.Took.{mark_traced, length_took, Moved, itself, kept, called, moved}

module _ (G : Tracer) (lo hi : ℕ → List ℕ) (base entries : List ℕ) (W : Within G lo hi) (B : Base G base) where
  module _ (m : List ℕ) (p : ℕ) (S : Sound G lo hi base entries m) (R : Ready G m p) where
    at : (q : ℕ) → Moved G m p q
    at q = moved G m p q (omega (arith, S.long, B.long)) R.inside

    -- a position that waits was reached
    reached : Why G hi base entries m p → Reach G hi base entries p
    reached (of_base e) = absurd (B.none_live p R.inside (inl (sym e ∙ R.waits)))
    reached (waits e r) = r
    reached (done a e r f) = r

    -- what is no longer untouched stays so
    stays : (q : ℕ) → Moved G m p q → get_or m q 0 ≢ 0 → get_or (took G m p) q 0 ≢ 0
    stays q (itself e x) nz z = live_ne (inr (mark_traced G m p)) (sym x ∙ z)
    stays q (kept ne f x) nz z = nz (sym x ∙ z)
    stays q (called ne i o x) nz z = omega arith

    -- an untouched position has the base's mark
    was_open : (q : ℕ) → Open G.size m q → Why G hi base entries m q → Open G.size base q
    was_open q o (of_base e) = record { inside = o.inside; clear = sym e ∙ o.clear }
    was_open q o (waits e r) = absurd (omega (arith, o.clear))
    was_open q o (done a e r f) = absurd (live_ne (inr (mark_traced G a q)) (sym e ∙ o.clear))

    same : (q : ℕ) → get_or (took G m p) q 0 ≡ get_or m q 0 → Why G hi base entries m q → Why G hi base entries (took G m p) q
    same q x (of_base e) = of_base (x ∙ e)
    same q x (waits e r) = waits (x ∙ e) r
    same q x (done a e r f) = done a (x ∙ e) r f

    reason : (q : ℕ) → Moved G m p q → Why G hi base entries (took G m p) q
    reason q (itself e x) =
        subst (λ (y : ℕ). Why G hi base entries (took G m p) y) (sym e)
        (done m (ap (λ (y : ℕ). get_or (took G m p) y 0) (sym e) ∙ x) (reached (S.why p)) R.whole)
    reason q (kept ne f x) = same q x (S.why q)
    reason q (called ne i o x) = waits x (target (reached (S.why p)) R.whole (W.at_most m p q i) (was_open q o (S.why q)))

    -- what p leads to is no longer untouched
    led : (q : ℕ) → Among q (targets G m p) → Open G.size base q → Moved G m p q → get_or (took G m p) q 0 ≢ 0
    led q i o (itself e x) z = live_ne (inr (mark_traced G m p)) (sym x ∙ z)
    led q i o (kept ne f x) z = f i (record { inside = o.inside; clear = sym x ∙ z })
    led q i o (called ne j u x) z = omega arith

    follows : (a q : ℕ) → a < G.size → IsTraced (get_or (took G m p) a 0) → Among q (lo a) → Open G.size base q → Moved G m p a
        → get_or (took G m p) q 0 ≢ 0
    follows a q h t i o (itself e x) = led q (W.at_least m p q (subst (λ (y : ℕ). Among q (lo y)) e i)) o (at q)
    follows a q h t i o (kept ne f x) = stays q (at q) (S.closed a q h (subst IsTraced x t) i o)
    follows a q h t i o (called ne j u x) = absurd (waits_not x t)

    pub step_sound : Sound G lo hi base entries (took G m p)
    step_sound = record {
      long = length_took G m p ∙ S.long;
      why = λ q. reason q (at q);
      begun = λ q i o. stays q (at q) (S.begun q i o);
      closed = λ a q h t i o. follows a q h t i o (at a);
    }

  pub takes_sound : {m m' ps : List ℕ} → Takes G m ps m' → Sound G lo hi base entries m → Sound G lo hi base entries m'
  takes_sound stay S = S
  takes_sound (up {m = m} {p = p} R t) S = takes_sound t (step_sound m p S R)

  pub reached_sound : {m ps : List ℕ} → Takes G (note G.size entries base) ps m → Sound G lo hi base entries m
  reached_sound t = takes_sound t (start_sound G lo hi base entries W B)
