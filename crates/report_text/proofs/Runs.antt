-- What is reported of an image and entries: the figures of a run's marks, or the number of the run's refusal.
-- Assumes nothing.
use mathlib.Core.Path.{◌≡◌, refl, sym, ap, ap₂, subst, ◌∙◌}
use mathlib.Core.List.{List, []}
use mathlib.Core.Bool.{true, false}
use Prim.Native.Nat.{ℕ, ◌≤◌}
use native.Mathlib.Omega.{arith}
use lib.IntN.{ℤ}
use lib.ListN.{length, take, replicate}
use Rattle.std.proofs.Common.{Ok, Err}
use Rattle.instruction.specs.Answer.{Answer, accepted, refused}
use Rattle.instruction.specs.declared.mode.Mode.TheVariants.{Unwrapped}
use Rattle.trace.specs.Run.{RunResult, ran_of, run_answer, run_marks}
use Rattle.trace.specs.declared.run.Ran.{Ran}
use Rattle.trace.specs.declared.run.Ran.TheVariants.{Finished, Stopped}
use Rattle.trace.specs.declared.run.RunError.{RunError}
use Rattle.trace.specs.declared.run.RunError.TheVariants.{Size, ShortOrder, Cut}
use Rattle.marks.specs.declared.sizes.SizeError.TheVariants.{LongImage, ShortMarks}
use Rattle.views.specs.View.{Sound}
use Rattle.views.proofs.Fronts.{take_replicate}
use Rattle.list_text.specs.Output.{lent_room}
use Rattle.list_text.proofs.Images.{marks_sound}
use Rattle.list_text.proofs.RunRefused.{run_five}
use Rattle.report_text.specs.Figures.{figures}
use Rattle.report_text.specs.Image.{steps_of, of_run, traced}
use Rattle.report_text.specs.declared.figures.Figures.{Figures}

-- what is lent of a room
pub lent_as : (image room : List ℕ) (k : ℕ) → room ≡ replicate k 0 → length image ≤ k → take (length image) room ≡ lent_room image
lent_as image room k e h = ap (take (length image)) e ∙ take_replicate (length image) k h

-- what a run tells, and its steps
pub told_run : (r : Ran) → (s : RunResult) × ((accepted s ≡ ran_of (Ok r)) × (s.steps ≡ steps_of r))
told_run (Finished c) = (record { finished = true; steps = c.steps; noted = c.noted }, (refl, refl))
told_run (Stopped c) = (record { finished = false; steps = c.steps; noted = c.noted }, (refl, refl))

-- b and o are the rooms of a run
module _ (image entries b o : List ℕ) (e : b ≡ lent_room image) (f : o ≡ lent_room image) where
  abbrev answer : List ℕ → List ℕ → Answer RunResult
  answer x y = run_answer Unwrapped image x y entries [] (length image)

  abbrev marks : List ℕ → List ℕ → List ℕ
  marks x y = run_marks Unwrapped image x y entries [] (length image)

  abbrev room : List ℕ
  room = lent_room image

  pub refused_run : (n : ℕ) (vs : List ℤ) → refused n vs ≡ answer b o → refused n [] ≡ traced image entries
  unfolding traced
  refused_run n vs g = ap (of_run image (marks room room)) (g ∙ ap₂ answer e f)

  -- a run in rooms as long as the image is refused by an instruction cut off alone
  five_run : length image ≤ 16384 → (n : ℕ) (vs : List ℤ) → refused n vs ≡ answer b o → refused 5 [] ≡ traced image entries
  five_run h n vs g =
      ap (λ (k : ℕ). refused k []) (sym (run_five Unwrapped image entries [] (omega (arith, h)) n vs (sym (g ∙ ap₂ answer e f)))) ∙ refused_run n vs g

  pub cut_run : length image ≤ 16384 → (r : RunError) → ran_of (Err r) ≡ answer b o → refused 5 [] ≡ traced image entries
  cut_run h (Size (LongImage k)) g = five_run h _ _ g
  cut_run h (Size (ShortMarks k)) g = five_run h _ _ g
  cut_run h (ShortOrder k) g = five_run h _ _ g
  cut_run h (Cut k) g = five_run h _ _ g

  -- m is what it left for marks
  module _ (s : RunResult) (g : accepted s ≡ answer b o) (m : List ℕ) (k : m ≡ marks b o) where
    pub counted_run : (a : Figures) → a ≡ figures image m s.steps → accepted a ≡ traced image entries
    unfolding traced
    counted_run a h =
        ap accepted (h ∙ ap (λ (x : List ℕ). figures image x s.steps) (k ∙ ap₂ marks e f)) ∙ ap (of_run image (marks room room)) (g ∙ ap₂ answer e f)

    pub sound_run : length image ≤ 16384 → length m ≡ length b → Sound image m
    sound_run h l =
        let q : m ≡ marks room room = k ∙ ap₂ marks e f in
        subst (Sound image) (sym q) (marks_sound Unwrapped image entries [] (omega (arith, h)) s (sym (g ∙ ap₂ answer e f))
        (ap length (sym q) ∙ l ∙ ap length e))
