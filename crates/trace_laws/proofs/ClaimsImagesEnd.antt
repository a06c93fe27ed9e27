-- From every table steps can be continued until none is accepted: each accepted step traces one position more.
-- Assumes nothing.
use Prim.Native.Nat.{ℕ, zero, suc, ◌+◌, ◌<◌, ◌≤◌}
use Rattle.reach.proofs.Cases.{eq_or_ne}
use native.Mathlib.Nat.{not-suc-le-zero}
use native.Mathlib.Omega.{arith}
use mathlib.Core.Path.{◌≡◌, refl, sym, ap, ◌∙◌}
use mathlib.Core.Logic.{◌⊎◌, inl, inr, ⊎_elim}
use mathlib.Core.List.{List, [], ◌∷◌}
use lib.ListN.{length, take}
use Rattle.instruction.specs.Answer.{Answer, accepted, refused}
use Rattle.instruction.specs.declared.mode.Mode.{Mode}
use Rattle.reach.specs.Mark.{traced_mark, count}
use Rattle.reach.proofs.Count.{count_under}
use Rattle.reach.proofs.Took.{count_took}
use Rattle.trace_laws.specs.ClaimsImages.{Steps, stay, further, Still, ImageCanEnd}
use Rattle.trace.specs.Step.{StepResult, step_answer, step_marks}
use Rattle.marks.specs.Tracer.{tracer_of}
use Rattle.trace_laws.proofs.Accepted.{went}

module _ (mode : Mode) (image : List ℕ) where
  abbrev done : List ℕ → ℕ
  done m = count traced_mark (take (length image) m)

  abbrev Not : List ℕ → ℕ → Type 0
  Not m p = (s : StepResult) → step_answer mode image m p ≡ accepted s → ⊥

  abbrev Some : List ℕ → Type 0
  Some m = (p : ℕ) × (s : StepResult) × (step_answer mode image m p ≡ accepted s)

  step_or_not : (m : List ℕ) (p : ℕ) → Some m ⊎ Not m p
  step_or_not m p = by (step_answer mode image m p) refl
    where
      by : (r : Answer StepResult) → step_answer mode image m p ≡ r → Some m ⊎ Not m p
      by (accepted s) e = inl (p, s, e)
      by (refused n vs) e =
          inr (λ s f. let g : refused n vs ≡ accepted s = sym e ∙ f in let z : ◌≡◌ {A = ℕ} 0 1 = cc in omega arith)

  -- one, or none below k
  abbrev Searched : List ℕ → ℕ → Type 0
  Searched m k = Some m ⊎ ((p : ℕ) → p < k → Not m p)

  below : (m : List ℕ) (k : ℕ) → Searched m k
  below m zero = inr (λ p h. absurd (not-suc-le-zero h))
  below m (suc k) = by (below m k) (step_or_not m k)
    where
      by : Searched m k → Some m ⊎ Not m k → Searched m (suc k)
      by (inl w) d = inl w
      by (inr f) (inl w) = inl w
      by (inr f) (inr g) = inr (λ p h s e. ⊎_elim (λ q. g s (ap (step_answer mode image m) (sym q) ∙ e)) (λ ne. f p (omega arith) s e) (eq_or_ne p k))

  some_or_still : (m : List ℕ) → Some m ⊎ Still mode image m
  some_or_still m = ⊎_elim (λ w. inl w) (λ f. inr (λ p s e. f p (went mode image m p s e).ready.inside s e)) (below m (length image))

  abbrev Reached : List ℕ → Type 0
  Reached m = (ps : List ℕ) × (m' : List ℕ) × Steps mode image m ps m' × Still mode image m'

  -- an accepted step traces one more
  one_more_lem : (m : List ℕ) (w : Some m) → done (step_marks mode image m w.0) ≡ suc (done m)
  one_more_lem m w = let g = went mode image m w.0 w.1 w.2 in ap done g.marks ∙ count_took (tracer_of mode image) m w.0 g.room g.ready

  lead : (k : ℕ) (m : List ℕ) → length image ≤ done m + k → Reached m
  lead zero m h = by (some_or_still m)
    where
      by : Some m ⊎ Still mode image m → Reached m
      by (inl w) = absurd (omega (arith, one_more_lem m w, count_under traced_mark (length image) (step_marks mode image m w.0)))
      by (inr E) = ([], m, stay, E)
  lead (suc k) m h = by (some_or_still m) (λ (m' : List ℕ) (h' : length image ≤ done m' + k). lead k m' h')
    where
      by : Some m ⊎ Still mode image m → ((m' : List ℕ) → length image ≤ done m' + k → Reached m') → Reached m
      by (inl w) on =
          let r = on (step_marks mode image m w.0) (omega (arith, one_more_lem m w)) in (w.0 ∷ r.0, r.1, further w.2 r.2, r.3)
      by (inr E) on = ([], m, stay, E)

pub image_can_end : ImageCanEnd
image_can_end mode image m = lead mode image (length image) m (omega arith)
