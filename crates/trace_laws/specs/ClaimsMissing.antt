-- Document 02, W2: where step or run answers 5, one or two bytes are missing.
-- Assumes nothing.
use Rattle.std.specs.Prelude.{ℕ, List, ◌≡◌, ℤ}
use Rattle.instruction.specs.Bytes.{Bytes}
use Rattle.instruction.specs.Answer.{refused}
use Rattle.instruction_laws.specs.Missing.{OneOrTwo}
use Rattle.instruction.specs.declared.mode.Mode.{Mode}
use Rattle.trace.specs.Run.{run_answer}
use Rattle.trace.specs.Step.{step_answer}

abbrev pub StepMissing : Type 0
StepMissing = (mode : Mode) (image m : List ℕ) (p : ℕ) (vs : List ℤ) → Bytes image → step_answer mode image m p ≡ refused 5 vs → OneOrTwo vs

abbrev pub RunMissing : Type 0
RunMissing =
    (mode : Mode) (image marks order entries pins : List ℕ) (limit : ℕ) (vs : List ℤ) → Bytes image
    → run_answer mode image marks order entries pins limit ≡ refused 5 vs → OneOrTwo vs
