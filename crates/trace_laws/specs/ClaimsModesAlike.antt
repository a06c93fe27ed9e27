-- Where no short target and no next leaves memory, the two modes trace alike. Document 02, W7. Stated over the very definitions that the
-- contracts of targets, step, run and sweep cite.
-- Assumes nothing.
use Rattle.std.specs.Prelude.{ℕ, ◌+◌, true, List, ◌≡◌}
use Rattle.instruction.specs.declared.mode.Mode.TheVariants.{Unwrapped, Wrapping}
use Rattle.targets.specs.At.{size_here, fits_here, instr_here, ways_here, name_here}
use Rattle.targets.specs.Targets.{targets_in}
use Rattle.trace.specs.Run.{run_answer, run_marks, run_order}
use Rattle.trace.specs.Step.{step_answer, step_marks}
use Rattle.sweep.specs.Sweep.{sweep_answer, sweep_leaves}
use Rattle.trace_laws.specs.ClaimsModes.{Inside}

-- each of document 01's targets of every instruction of the image that is not cut off, next among them where it is one, is an address
abbrev pub Stays : List ℕ → Type 0
Stays image = (p : ℕ) → fits_here image p ≡ true → Inside (targets_in Unwrapped (p + size_here image p) (instr_here image p))

-- Over this image the modes answer and leave the same: where control goes from an instruction that is not cut off, and what it names; a
-- step; a run; the sweeping engine
pub record ModesAlike (image : List ℕ) : Type 0 where
  pub ways : (p : ℕ) → fits_here image p ≡ true → ways_here Wrapping image p ≡ ways_here Unwrapped image p
  pub name : (p : ℕ) → fits_here image p ≡ true → name_here Wrapping image p ≡ name_here Unwrapped image p
  pub step_answer_lem : (m : List ℕ) (p : ℕ) → step_answer Wrapping image m p ≡ step_answer Unwrapped image m p
  pub step_marks_lem : (m : List ℕ) (p : ℕ) → step_marks Wrapping image m p ≡ step_marks Unwrapped image m p
  pub run_answer_lem : (marks order entries pins : List ℕ) (limit : ℕ)
      → run_answer Wrapping image marks order entries pins limit ≡ run_answer Unwrapped image marks order entries pins limit
  pub run_marks_lem : (marks order entries pins : List ℕ) (limit : ℕ)
      → run_marks Wrapping image marks order entries pins limit ≡ run_marks Unwrapped image marks order entries pins limit
  pub run_order_lem : (marks order entries pins : List ℕ) (limit : ℕ)
      → run_order Wrapping image marks order entries pins limit ≡ run_order Unwrapped image marks order entries pins limit
  pub sweep_answer_lem : (marks entries pins : List ℕ) → sweep_answer Wrapping image marks entries pins ≡ sweep_answer Unwrapped image marks entries pins
  pub sweep_leaves_lem : (marks entries pins : List ℕ) → sweep_leaves Wrapping image marks entries pins ≡ sweep_leaves Unwrapped image marks entries pins

-- so it is for every such image
abbrev pub StaysAlike : Type 0
StaysAlike = (image : List ℕ) → Stays image → ModesAlike image
