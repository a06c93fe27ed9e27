-- The number and values of what start, step, run and the sweeping engine answer tell all cases apart: they are read back.
-- Assumes nothing.
use Prim.Native.Nat.{ℕ}
use mathlib.Core.Path.{◌≡◌, refl}
use mathlib.Core.Bool.{cond}
use mathlib.Core.List.{List}
use lib.Dec.{eqb}
use lib.IntN.{ℤ}
use Rattle.std.specs.Prelude.{Result, Ok, Err}
use Rattle.instruction.specs.Answer.{Answer, accepted, refused}
use Rattle.marks.specs.declared.sizes.SizeError.{SizeError}
use Rattle.marks.specs.declared.sizes.SizeError.TheVariants.{LongImage, ShortMarks}
use Rattle.trace_laws.specs.ClaimsSteps.{SizedApart, StartedApart, SteppedApart, RanApart, SweptApart}
use Rattle.marks.specs.Refusals.{sized_of}
use Rattle.trace.specs.Run.{ran_of}
use Rattle.trace.specs.Run as running
use Rattle.trace.specs.Start.{started_of}
use Rattle.trace.specs.Step.{StepResult, stepped_of}
use Rattle.trace.specs.declared.run.Counts.{Counts}
use Rattle.trace.specs.declared.run.Ran.{Ran}
use Rattle.trace.specs.declared.run.Ran.TheVariants.{Finished, Stopped}
use Rattle.trace.specs.declared.run.RunError.{RunError}
use Rattle.trace.specs.declared.run.RunError.TheVariants as run
use Rattle.trace.specs.declared.step.Advance.{Advance}
use Rattle.trace.specs.declared.step.StepError.{StepError}
use Rattle.trace.specs.declared.step.StepError.TheVariants as step
use Rattle.sweep.specs.Sweep.{swept_of}
use Rattle.sweep.specs.Sweep as sweeping
use Rattle.sweep.specs.declared.sweep.Tally.{Tally}
use Rattle.instruction_laws.proofs.Undone.{undone, number_at, cut}

abbrev size_refused : ℕ → List ℤ → SizeError
size_refused n vs = cond (eqb n 1) (LongImage (number_at vs 0)) (ShortMarks (number_at vs 0))

abbrev size_answered : Answer (Unit {0}) → Result (Unit {0}) SizeError
size_answered (accepted u) = Ok u
size_answered (refused n vs) = Err (size_refused n vs)

size_back : (r : Result (Unit {0}) SizeError) → size_answered (sized_of r) ≡ r
size_back (Ok u) = refl
size_back (Err (LongImage n)) = refl
size_back (Err (ShortMarks n)) = refl

pub sized_apart : SizedApart
sized_apart = undone sized_of size_answered size_back

abbrev start_answered : Answer ℕ → Result ℕ SizeError
start_answered (accepted n) = Ok n
start_answered (refused n vs) = Err (size_refused n vs)

start_back : (r : Result ℕ SizeError) → start_answered (started_of r) ≡ r
start_back (Ok n) = refl
start_back (Err (LongImage n)) = refl
start_back (Err (ShortMarks n)) = refl

pub started_apart : StartedApart
started_apart = undone started_of start_answered start_back

abbrev step_refused : ℕ → List ℤ → StepError
step_refused n vs =
    cond (eqb n 4) (step.NotWaiting (number_at vs 0))
    (cond (eqb n 5) (step.Cut (cut vs)) (cond (eqb n 6) (step.Damaged (number_at vs 0)) (step.Size (size_refused n vs))))

abbrev step_answered : Answer StepResult → Result Advance StepError
step_answered (accepted s) = Ok (record { mark = s.mark; waiting = s.waiting })
step_answered (refused n vs) = Err (step_refused n vs)

step_back : (r : Result Advance StepError) → step_answered (stepped_of r) ≡ r
step_back (Ok s) = refl
step_back (Err (step.Size (LongImage n))) = refl
step_back (Err (step.Size (ShortMarks n))) = refl
step_back (Err (step.NotWaiting v)) = refl
step_back (Err (step.Cut c)) = refl
step_back (Err (step.Damaged q)) = refl

pub stepped_apart : SteppedApart
stepped_apart = undone stepped_of step_answered step_back

abbrev run_refused : ℕ → List ℤ → RunError
run_refused n vs = cond (eqb n 3) (run.ShortOrder (number_at vs 0)) (cond (eqb n 5) (run.Cut (cut vs)) (run.Size (size_refused n vs)))

abbrev run_answered : Answer running.RunResult → Result Ran RunError
run_answered (accepted s) =
    let c : Counts = record { steps = s.steps; noted = s.noted } in Ok (cond s.finished (Finished c) (Stopped c))
run_answered (refused n vs) = Err (run_refused n vs)

run_back : (r : Result Ran RunError) → run_answered (ran_of r) ≡ r
run_back (Ok (Finished c)) = refl
run_back (Ok (Stopped c)) = refl
run_back (Err (run.Size (LongImage n))) = refl
run_back (Err (run.Size (ShortMarks n))) = refl
run_back (Err (run.ShortOrder n)) = refl
run_back (Err (run.Cut c)) = refl

pub ran_apart : RanApart
ran_apart = undone ran_of run_answered run_back

abbrev sweep_answered : Answer sweeping.SweepResult → Result Tally SizeError
sweep_answered (accepted s) = Ok (record { sweeps = s.sweeps; steps = s.steps })
sweep_answered (refused n vs) = Err (size_refused n vs)

sweep_back : (r : Result Tally SizeError) → sweep_answered (swept_of r) ≡ r
sweep_back (Ok t) = refl
sweep_back (Err (LongImage n)) = refl
sweep_back (Err (ShortMarks n)) = refl

pub swept_apart : SweptApart
swept_apart = undone swept_of sweep_answered sweep_back
