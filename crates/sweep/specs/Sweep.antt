-- What the sweeping engine answers and leaves. Document 02, W6; document 01, 'Marks and steps', and refusals 1 and 2, as in start.
-- Assumes nothing.
use Rattle.std.specs.Prelude.{ℕ, List, Result, Ok, Err}
use Rattle.instruction.specs.Answer.{Answer, accepted, judge, after}
use Rattle.instruction.specs.declared.mode.Mode.{Mode}
use Rattle.reach.specs.Sweep.{swept_marks, sweeps, swept_steps}
use Rattle.marks.specs.Refusals.{size_refusals, size_refused}
use Rattle.marks.specs.Tracer.{tracer_of}
use Rattle.trace.specs.Start.{start_marks}
use Rattle.sweep.specs.declared.sweep.Tally.{Tally}
use Rattle.marks.specs.declared.sizes.SizeError.{SizeError}

-- the sweeps, the last one counted, and the steps, which are the marks 2 and 3 afterwards
pub record SweepResult : Type 0 where
  pub sweeps : ℕ
  pub steps : ℕ

-- of sweeps over these marks
abbrev pub sweep_result : Mode → List ℕ → List ℕ → SweepResult
sweep_result mode image m = record { sweeps = sweeps (tracer_of mode image) m; steps = swept_steps (tracer_of mode image) m }

abbrev pub tally_of : Tally → SweepResult
tally_of t = record { sweeps = t.sweeps; steps = t.steps }

abbrev pub swept_of : Result Tally SizeError → Answer SweepResult
swept_of (Ok t) = accepted (tally_of t)
swept_of (Err e) = size_refused e

-- it starts as start does
unfoldable pub sweep_answer : Mode → List ℕ → List ℕ → List ℕ → List ℕ → Answer SweepResult
sweep_answer mode image marks entries pins = judge (size_refusals image marks) (sweep_result mode image (start_marks image marks entries pins))

-- the marks where the sweeps end
unfoldable pub sweep_leaves : Mode → List ℕ → List ℕ → List ℕ → List ℕ → List ℕ
sweep_leaves mode image marks entries pins =
    after (sweep_answer mode image marks entries pins) (swept_marks (tracer_of mode image) (start_marks image marks entries pins)) marks
