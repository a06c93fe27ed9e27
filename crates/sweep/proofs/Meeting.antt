-- A position met by a sweep: taken up, or passed. Assumes nothing.
use Prim.Native.Nat.{ℕ, ◌+◌, ◌<◌, ◌≤◌}
use native.Mathlib.Omega.{arith}
use mathlib.Core.Path.{◌≡◌, sym, ap, subst, ◌∙◌}
use mathlib.Core.Logic.{◌⊎◌, inl, inr, ◌≢◌}
use mathlib.Core.Bool.{Bool, true, false, cond}
use mathlib.Core.List.{List, Memᴰ as Among}
use lib.Dec.{eqb}
use lib.ListN.{length, get_or}
use borrow.Author.Tests.{eq-eqb, ne_eqb}
use Rattle.instruction.proofs.Ands.{both, not_first, not_second}
use Rattle.instruction.proofs.Sign.{never}
use Rattle.reach.specs.Mark.{waiting}
use Rattle.reach.specs.Tracer.{Tracer, took, found}
use Rattle.reach.specs.Sweep.{can_take, swept_at}
use Rattle.reach.proofs.Found.{found_called}
use Rattle.sweep.specs.Way.{Covers, MetOn}
use Rattle.sweep.specs.declared.way.Way.{Way}
use Rattle.sweep.proofs.Covering.{After, met_on}
use Rattle.sweep.proofs.Waiting.{still}

module _ (G : Tracer) (m : List ℕ) (p : ℕ) (w : Way) where
  passed : can_take G m p ≡ false → MetOn G m p w w m
  unfolding swept_at
  passed e = record {
    taken_is = let z : ◌≡◌ {A = ℕ} (cond (can_take G m p) 1 0) 0 = ap (λ (b : Bool). cond {A = ℕ} b 1 0) e in omega (arith, z);
    marks_are = sym (ap (λ (b : Bool). cond b (took G m p) m) e);
    bounds = λ B. B;
    covers = λ C q f. met_on w p q (λ i. never (sym f ∙ ap (can_take G m) i ∙ e)) (C q f);
  }

  pub not_waiting : get_or m p 0 ≢ waiting → MetOn G m p w w m
  unfolding can_take
  not_waiting h = passed (not_first _ _ (ne_eqb (get_or m p 0) waiting h))

  pub cut_off_lem : G.fits p ≡ false → MetOn G m p w w m
  unfolding can_take
  cut_off_lem e = passed (not_second (eqb (get_or m p 0) waiting) _ e)

  module _ (l : G.size ≤ length m) (h : p < G.size) (waits : get_or m p 0 ≡ waiting) (fits : G.fits p ≡ true) where
    can : can_take G m p ≡ true
    unfolding can_take
    can = both _ _ (eq-eqb (get_or m p 0) waiting waits) fits

    -- what it found waits besides
    pub taken_up : (ts : List ℕ) → ts ≡ found G m p → (r : Way) → After w (p + 1) ts r → (m' : List ℕ) → m' ≡ took G m p → MetOn G m p w r m'
    unfolding swept_at
    taken_up ts t r N m' e = record {
      taken_is = let z : ◌≡◌ {A = ℕ} (cond (can_take G m p) 1 0) 1 = ap (λ (b : Bool). cond {A = ℕ} b 1 0) can in omega (arith, z, N.0);
      marks_are = e ∙ sym (ap (λ (b : Bool). cond b (took G m p) m) can);
      bounds = λ B. N.1.bounds G.size (omega (arith, h)) (λ q i. (found_called G m p l h q (subst (Among q) t i)).2.inside) B;
      covers = λ C q f. let s = still G m p l h q (ap (λ (x : List ℕ). can_take G x q) (sym e) ∙ f) in by C q s.0 s.1;
    }
      where
        by : ((q : ℕ) → can_take G m q ≡ true → Covers w p q) → (q : ℕ) → q ≢ p → (can_take G m q ≡ true) ⊎ Among q (found G m p) → Covers r (p + 1) q
        by C q ne (inl g) = N.1.old q (met_on w p q ne (C q g))
        by C q ne (inr i) = N.1.new q (subst (Among q) (sym t) i)
