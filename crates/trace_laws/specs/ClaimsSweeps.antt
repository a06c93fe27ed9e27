-- The sweeping engine over images. Document 02, W6. Stated over the very definitions that the contracts of sweep, run and start cite.
-- Assumes nothing.
use Rattle.std.specs.Prelude.{ℕ, ◌<◌, ◌≤◌, true, List, ◌↔◌, ◌≡◌, ℤ, length, get_or, take}
use Rattle.instruction.specs.Answer.{accepted, refused}
use Rattle.instruction.specs.Bytes.{Bytes}
use Rattle.instruction.specs.declared.mode.Mode.{Mode}
use Rattle.reach.specs.ClaimsSweep.{EachTakes}
use Rattle.reach.specs.Mark.{waiting, traced_mark, count}
use Rattle.marks.specs.Tracer.{tracer_of}
use Rattle.trace.specs.Run.{RunResult, run_answer, run_marks}
use Rattle.trace.specs.Start.{start_marks}
use Rattle.sweep.specs.Sweep.{SweepResult, sweep_answer, sweep_leaves}
use Rattle.trace_laws.specs.ClaimsImages.{Clean}

-- "For images without B8 0D 21 in succession its final marks equal those of a finished run" from the same entries
abbrev pub ImageSweepRun : Type 0
ImageSweepRun =
    (mode : Mode) (image marks order entries pins : List ℕ) (limit : ℕ) (s : RunResult) → Bytes image → Clean image
    → run_answer mode image marks order entries pins limit ≡ accepted s → s.finished ≡ true
    → sweep_leaves mode image marks entries pins ≡ run_marks mode image marks order entries pins limit

-- some position of the image waits
abbrev pub Waits : List ℕ → List ℕ → Type 0
Waits image m = (p : ℕ) × (p < length image) × (get_or m p 0 ≡ waiting)

-- a run from these entries ends in refusal 5
abbrev pub EndsInFive : Mode → List ℕ → List ℕ → List ℕ → List ℕ → List ℕ → ℕ → Type 0
EndsInFive mode image marks order entries pins limit = (vs : List ℤ) × (run_answer mode image marks order entries pins limit ≡ refused 5 vs)

-- "and it leaves a position waiting exactly when a run with a limit of at least the image length ends in refusal 5", where the image and
-- what is lent are of sizes that neither refuses
abbrev pub ImageSweepWaits : Type 0
ImageSweepWaits =
    (mode : Mode) (image marks order entries pins : List ℕ) (limit : ℕ) → Bytes image → Clean image
    → length image ≤ 65536 → length image ≤ length marks → length image ≤ length order → length image ≤ limit
    → Waits image (sweep_leaves mode image marks entries pins) ↔ EndsInFive mode image marks order entries pins limit

-- for every image: "steps being the marks 2 and 3 afterwards"
abbrev pub ImageSweepSteps : Type 0
ImageSweepSteps =
    (mode : Mode) (image marks entries pins : List ℕ) (s : SweepResult) → sweep_answer mode image marks entries pins ≡ accepted s
    → s.steps ≡ count traced_mark (take (length image) (sweep_leaves mode image marks entries pins))

-- and it "sweeps again until a sweep takes none, that last one counted": each sweep but the last takes at least one position
abbrev pub ImageSweeps : Type 0
ImageSweeps =
    (mode : Mode) (image marks entries pins : List ℕ) (s : SweepResult) → sweep_answer mode image marks entries pins ≡ accepted s
    → EachTakes (tracer_of mode image) (start_marks image marks entries pins) (sweep_leaves mode image marks entries pins) s.sweeps
