-- The values of the tracer's calls where they are accepted. Document 01, 'Marks and steps'.
-- Assumes nothing.
use Rattle.std.specs.Prelude.{cond, List, [], ◌∷◌, ℤ, pos}
use Rattle.trace.specs.Step.{StepResult}
use Rattle.trace.specs.Run.{RunResult}
use Rattle.sweep.specs.Sweep.{SweepResult}

-- the new mark, and how many became 1
abbrev pub step_values : StepResult → List ℤ
step_values s = pos s.mark ∷ pos s.waiting ∷ []

-- the sweeps, the last one counted, and the steps. Document 02, W6
abbrev pub sweep_values : SweepResult → List ℤ
sweep_values s = pos s.sweeps ∷ pos s.steps ∷ []

-- 1 where nothing was waiting or 0 where the limit was used up, the steps, and the positions noted
abbrev pub run_values : RunResult → List ℤ
run_values s = pos (cond s.finished 1 0) ∷ pos s.steps ∷ pos s.noted ∷ []
