-- A step is accepted exactly where the position can be taken up, on marks that are not damaged.
-- Assumes nothing.
use Prim.Native.Nat.{ℕ, ◌-◌, ◌<◌, ◌≤◌}
use native.Mathlib.Omega.{arith}
use mathlib.Core.Path.{◌≡◌, refl, sym, ap, ◌∙◌}
use mathlib.Core.Bool.{Bool, true, false, not, ◌&&◌}
use mathlib.Core.List.{List, [], ◌∷◌}
use lib.Dec.{eqb, ltb}
use lib.ListN.{length, get_or}
use borrow.Author.Tests.{le-ltb, ltb-true, ltb-false, leb-false, eqb-true, eqb-false}
use Rattle.instruction.specs.Answer.{Answer, accepted, judge, after}
use Rattle.instruction.proofs.Judging.{pass, done}
use Rattle.instruction.proofs.Sign.{never}
use Rattle.instruction.proofs.Accepting.{passed}
use Rattle.reach.specs.Takes.{Ready}
use Rattle.reach.specs.Tracer.{targets, took}
use Rattle.marks.specs.Refusals.{damaged}
use Rattle.trace.specs.Step.{idle, damages, damage_refusals, step_refusals, StepResult, step_result, step_answer, step_marks}
use Rattle.marks.specs.Tracer.{tracer_of}
use Rattle.targets.specs.At.{fits_here, flash_here}
use Rattle.instruction.proofs.Ands.{not_second}
use Rattle.instruction.specs.declared.mode.Mode.{Mode}
use Rattle.trace.proofs.StepAnswers.{idle_marks, whole}

-- what an accepted step says
pub record Went (mode : Mode) (image m : List ℕ) (p : ℕ) : Type 0 where
  pub small : length image ≤ 65536
  pub room : length image ≤ length m
  pub ready : Ready (tracer_of mode image) m p
  pub marks : step_marks mode image m p ≡ took (tracer_of mode image) m p

waits : (v : ℕ) → idle v ≡ false → v ≤ 4 → v ≡ 1
waits v i h = by (eqb v 1) refl
  where
    by : (t : Bool) → eqb v 1 ≡ t → v ≡ 1
    by true e = eqb-true v 1 e
    by false e = absurd (never (sym (idle_marks v h (eqb-false v 1 e)) ∙ i))

fitted : (b : Bool) → not b ≡ false → b ≡ true
fitted true e = refl
fitted false e = absurd (never e)

pub went : (mode : Mode) (image m : List ℕ) (p : ℕ) (s : StepResult) → step_answer mode image m p ≡ accepted s → Went mode image m p
unfolding step_answer step_refusals step_marks
went mode image m p s e =
    let a = passed _ _ _ e in
    let b = passed _ _ _ a.1 in
    let c = passed _ _ _ b.1 in
    let d = passed _ _ _ c.1 in
    let f = passed _ _ _ d.1 in
    let g = passed _ _ _ f.1 in
    let inside : p < length image = leb-false (length image) p c.0 in
    record {
      small = ltb-false 65536 (length image) a.0;
      room = ltb-false (length m) (length image) b.0;
      ready = record { inside = inside; waits = waits (get_or m p 0) d.0 (ltb-false 4 (get_or m p 0) f.0); whole = fitted (fits_here image p) g.0 };
      marks = ap (λ (r : Answer StepResult). after r (took (tracer_of mode image) m p) m) e;
    }

-- no mark inside is over 4
abbrev pub Sound : List ℕ → List ℕ → Type 0
Sound image m = (q : ℕ) → q < length image → get_or m q 0 ≤ 4

module _ (mode : Mode) (image m : List ℕ) (S : Sound image m) where
  no_damage : {A : Type 0} (a : A) (ts : List ℕ) → judge (damages (length image) m ts) a ≡ accepted a
  unfolding damages
  no_damage a [] = done a
  no_damage a (t ∷ ts) = pass _ _ _ (by (ltb t (length image)) refl) ∙ no_damage a ts
    where
      by : (b : Bool) → ltb t (length image) ≡ b → (ltb t (length image) && damaged (get_or m t 0)) ≡ false
      by true e = not_second (ltb t (length image)) (damaged (get_or m t 0)) (le-ltb 4 (get_or m t 0) (S t (ltb-true t (length image) e)))
      by false e = rw e

  sound_said : (p : ℕ) → p < length image → judge (damage_refusals image m p (targets (tracer_of mode image) m p)) (step_result (tracer_of mode image) m p)
      ≡ accepted (step_result (tracer_of mode image) m p)
  unfolding damage_refusals
  sound_said p h =
      let k : p - 2 < length image = omega arith in
      pass _ _ _ (not_second (flash_here image p) (damaged (get_or m (p - 2) 0)) (le-ltb 4 (get_or m (p - 2) 0) (S (p - 2) k)))
      ∙ no_damage (step_result (tracer_of mode image) m p) (targets (tracer_of mode image) m p)

  pub ready_accepted : length image ≤ 65536 → length image ≤ length m → (p : ℕ) → Ready (tracer_of mode image) m p
      → step_answer mode image m p ≡ accepted (step_result (tracer_of mode image) m p)
  ready_accepted s l p r =
      sym (whole mode image m p s l r.inside r.waits r.whole (accepted (step_result (tracer_of mode image) m p)) _
      (sym (sound_said p r.inside), refl)).0
