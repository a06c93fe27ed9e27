-- Where no target leaves memory the two modes trace alike: targets count only where an instruction is not cut off, and there they are the
-- same.
-- Assumes nothing.
use mathlib.Core.Path.{◌≡◌, ap, sym, ◌∙◌}
use mathlib.Core.Bool.{true, false}
use mathlib.Core.List.{List}
use mathlib.Core.Logic.{◌⊎◌, inl, inr}
use Prim.Native.Nat.{ℕ}
use lib.ListN.{length}
use Rattle.instruction.specs.Answer.{Answer, judge, after}
use Rattle.instruction.specs.declared.mode.Mode.TheVariants.{Unwrapped, Wrapping}
use Rattle.reach.specs.ClaimsAlike.{AlikeTaken, AlikeSwept}
use Rattle.reach.specs.Run.{Outcome, ordered}
use Rattle.reach.specs.Tracer.{took}
use Rattle.reach.proofs.Alike.{alike_takings, alike_runs}
use Rattle.reach.proofs.AlikeSweep.{alike_sweeps}
use Rattle.reach.proofs.Cases.{yes_or_no}
use Rattle.reach.specs.Pins.{table}
use Rattle.marks.specs.Tracer.{tracer_of}
use Rattle.targets.specs.At.{fits_here, ways_here}
use Rattle.trace.specs.Run.{outcome_of, run_judged, ran_answer, and_then, run_answer, run_marks, run_order}
use Rattle.trace.specs.Start.{start_marks}
use Rattle.trace.specs.Step.{StepResult, step_refusals, step_answer, step_marks}
use Rattle.sweep.specs.Sweep.{sweep_answer, sweep_leaves}
use Rattle.trace_laws.specs.ClaimsModesAlike.{Stays, StaysAlike}
use Rattle.trace_laws.proofs.SameHere.{ways_same, name_same}
use Rattle.trace_laws.proofs.Unwritten.{unwritten}

module _ (image : List ℕ) (S : Stays image) where
  -- ---- a step

  taken : (m : List ℕ) (p : ℕ) → fits_here image p ≡ true → AlikeTaken (tracer_of Wrapping image) (tracer_of Unwrapped image) m p
  taken m p f = alike_takings (tracer_of Unwrapped image) (ways_here Wrapping image) (ways_same image S) m p f

  -- one that is cut off is refused before a target is read
  answer_by_lem : (m : List ℕ) (p : ℕ) → (fits_here image p ≡ true) ⊎ (fits_here image p ≡ false)
      → step_answer Wrapping image m p ≡ step_answer Unwrapped image m p
  unfolding step_answer step_refusals judge
  answer_by_lem m p (inl f) = let A = taken m p f in rw (A.alike_targets, A.alike_mark, A.alike_found)
  answer_by_lem m p (inr f) = rw f

  marks_by : (m : List ℕ) (p : ℕ) → (fits_here image p ≡ true) ⊎ (fits_here image p ≡ false)
      → step_marks Wrapping image m p ≡ step_marks Unwrapped image m p
  unfolding step_marks
  marks_by m p (inr f) = unwritten Wrapping image m p f ∙ sym (unwritten Unwrapped image m p f)
  marks_by m p (inl f) =
      ap (λ (a : Answer StepResult). after a (took (tracer_of Wrapping image) m p) m) (answer_by_lem m p (inl f))
      ∙ ap (λ (w : List ℕ). after (step_answer Unwrapped image m p) w m) (taken m p f).alike_took

  -- ---- a run

  module _ (marks order entries pins : List ℕ) (limit : ℕ) where
    outcome : outcome_of Wrapping image marks entries pins limit ≡ outcome_of Unwrapped image marks entries pins limit
    unfolding outcome_of
    outcome = alike_runs limit (tracer_of Unwrapped image) (ways_here Wrapping image) (ways_same image S) entries (table (length image) pins marks)

    ran : run_answer Wrapping image marks order entries pins limit ≡ run_answer Unwrapped image marks order entries pins limit
    unfolding run_answer
    ran = ap (λ (o : Outcome). and_then (run_judged image marks order) (ran_answer image o)) outcome

    run_left : run_marks Wrapping image marks order entries pins limit ≡ run_marks Unwrapped image marks order entries pins limit
    unfolding run_marks
    run_left = ap (λ (o : Outcome). after (run_judged image marks order) o.marks marks) outcome

    run_noted : run_order Wrapping image marks order entries pins limit ≡ run_order Unwrapped image marks order entries pins limit
    unfolding run_order
    run_noted = ap (λ (o : Outcome). after (run_judged image marks order) (ordered o order) order) outcome

  -- ---- sweeps

  module _ (marks entries pins : List ℕ) where
    swept : AlikeSwept (tracer_of Wrapping image) (tracer_of Unwrapped image) (start_marks image marks entries pins)
    swept = alike_sweeps (tracer_of Unwrapped image) (ways_here Wrapping image) (ways_same image S) (start_marks image marks entries pins)

    sweep_told : sweep_answer Wrapping image marks entries pins ≡ sweep_answer Unwrapped image marks entries pins
    unfolding sweep_answer
    sweep_told = rw (swept.alike_sweeps, swept.alike_steps)

    sweep_left : sweep_leaves Wrapping image marks entries pins ≡ sweep_leaves Unwrapped image marks entries pins
    unfolding sweep_leaves
    sweep_left = rw (sweep_told, swept.alike_marks)

pub stays_alike : StaysAlike
stays_alike image S = record {
  ways = ways_same image S;
  name = name_same image S;
  step_answer_lem = λ m p. answer_by_lem image S m p (yes_or_no (fits_here image p));
  step_marks_lem = λ m p. marks_by image S m p (yes_or_no (fits_here image p));
  run_answer_lem = ran image S;
  run_marks_lem = run_left image S;
  run_order_lem = run_noted image S;
  sweep_answer_lem = sweep_told image S;
  sweep_leaves_lem = sweep_left image S;
}
