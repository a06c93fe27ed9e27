-- What start, accepted steps, a run and sweeps leave is not damaged: no view refuses it with 6. Document 01, 'Numbers given when a call says
-- no'.
-- Assumes nothing.
use Rattle.std.specs.Prelude.{ℕ, ◌<◌, ◌≤◌, false, List, ◌≡◌, length}
use Rattle.instruction.specs.Answer.{accepted}
use Rattle.instruction.specs.declared.mode.Mode.{Mode}
use Rattle.trace.specs.Run.{outcome_of}
use Rattle.trace.specs.Start.{start_answer, start_marks}
use Rattle.trace.specs.Step.{StepResult, step_answer, step_marks}
use Rattle.sweep.specs.Sweep.{SweepResult, sweep_answer, sweep_leaves}
use Rattle.trace_laws.specs.ClaimsImages.{Steps}
use Rattle.views.specs.View.{damaged_here}

-- no position of the image is damaged
abbrev pub Undamaged : List ℕ → List ℕ → Type 0
Undamaged image m = (p : ℕ) → p < length image → damaged_here image m p ≡ false

-- for every image, also one with B8 0D 21, from any entries, however the run ends
abbrev pub RunUndamaged : Type 0
RunUndamaged =
    (mode : Mode) (image marks entries pins : List ℕ) (limit : ℕ) → length image ≤ length marks
    → Undamaged image (outcome_of mode image marks entries pins limit).marks

-- what start leaves
abbrev pub StartUndamaged : Type 0
StartUndamaged =
    (image marks entries pins : List ℕ) (k : ℕ) → start_answer image marks entries pins ≡ accepted k → Undamaged image (start_marks image marks entries pins)

-- an accepted step keeps marks that are not damaged so
abbrev pub StepUndamaged : Type 0
StepUndamaged =
    (mode : Mode) (image m : List ℕ) (p : ℕ) (s : StepResult) → Undamaged image m → step_answer mode image m p ≡ accepted s
    → Undamaged image (step_marks mode image m p)

-- so do any accepted steps, one after the other
abbrev pub StepsUndamaged : Type 0
StepsUndamaged = (mode : Mode) (image m ps m' : List ℕ) → Undamaged image m → Steps mode image m ps m' → Undamaged image m'

-- what the sweeping engine leaves
abbrev pub SweepUndamaged : Type 0
SweepUndamaged =
    (mode : Mode) (image marks entries pins : List ℕ) (s : SweepResult) → sweep_answer mode image marks entries pins ≡ accepted s
    → Undamaged image (sweep_leaves mode image marks entries pins)
