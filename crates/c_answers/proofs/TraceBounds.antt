-- The lengths that the tracer's answers carry are those of lent slices: each fits a value of a reply.
-- Assumes nothing.
use mathlib.Core.List.{List, [], ◌∷◌}
use Prim.Native.Nat.{ℕ, ◌<◌, ◌^◌}
use lib.ListN.{length}
use Rattle.instruction.specs.declared.mode.Mode.{Mode}
use Rattle.instruction.proofs.Carried.{Each}
use Rattle.reach.specs.Run.{End, finished, stopped, cut_off, steps, noted}
use Rattle.trace.specs.Run.{run_answer, run_judged, end_of, outcome_of}
use Rattle.trace.specs.Start.{start_answer}
use Rattle.trace.specs.Step.{step_answer, step_refusals, damage_refusals, damages}
use Rattle.sweep.specs.Sweep.{sweep_answer}
use Rattle.c_answers.proofs.Fitting.{Fits, Holds, Any, this, fewer, judged, begun}

damages_each : (n : ℕ) (m ts : List ℕ) → Each Fits (damages n m ts)
unfolding damages
damages_each n m [] = tt
damages_each n m (t ∷ ts) = (fewer, damages_each n m ts)

damage_each : (image m : List ℕ) (p : ℕ) (ts : List ℕ) → Each Fits (damage_refusals image m p ts)
unfolding damage_refusals
damage_each image m p ts = (fewer, damages_each (length image) m ts)

-- how a run ends
ended : (image : List ℕ) (x : End) (s t : ℕ) → Holds Any (end_of image x s t)
ended image finished s t = tt
ended image stopped s t = tt
ended image (cut_off p) s t = fewer

module _ (image marks : List ℕ) (i : length image < 2 ^ 63) (m : length marks < 2 ^ 63) where
  pub start_fits : (entries pins : List ℕ) → Holds Any (start_answer image marks entries pins)
  unfolding start_answer
  start_fits entries pins = judged Any _ _ (this 1 i, (this 2 m, tt)) (λ e. tt)

  pub sweep_fits : (mode : Mode) (entries pins : List ℕ) → Holds Any (sweep_answer mode image marks entries pins)
  unfolding sweep_answer
  sweep_fits mode entries pins = judged Any _ _ (this 1 i, (this 2 m, tt)) (λ e. tt)

  steps_each : (mode : Mode) (p : ℕ) → Each Fits (step_refusals mode image marks p)
  unfolding step_refusals
  steps_each mode p =
      (this 1 i, (this 2 m, (fewer, (fewer, (fewer, (fewer, damage_each image marks p _))))))

  pub step_fits : (mode : Mode) (p : ℕ) → Holds Any (step_answer mode image marks p)
  unfolding step_answer
  step_fits mode p = judged Any _ _ (steps_each mode p) (λ e. tt)

  pub run_fits : (mode : Mode) (order entries pins : List ℕ) (limit : ℕ) → length order < 2 ^ 63
      → Holds Any (run_answer mode image marks order entries pins limit)
  unfolding run_answer
  run_fits mode order entries pins limit o =
      let out = outcome_of mode image marks entries pins limit in
      begun Any (run_judged image marks order) _ (judged Any _ tt (this 1 i, (this 2 m, (this 3 o, tt))) (λ e. tt))
      (ended image out.end (steps out) (length (noted out)))
