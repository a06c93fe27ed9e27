-- Where the values of an answer fit, the numbers of 64 bits in the result that it is stated of are below 2 ^ 63.
-- Assumes nothing.
use mathlib.Core.Path.{refl}
use Prim.Native.Nat.{ℕ}
use Rattle.std.proofs.Common.{Result, Ok, Err, Option, Some, None}
use Rattle.instruction.specs.Encode.{encoded_of}
use Rattle.instruction.specs.declared.encode.EncodeError.{EncodeError}
use Rattle.instruction.specs.declared.encode.EncodeError.TheVariants as encode
use Rattle.targets.specs.Targets.{targets_of}
use Rattle.targets.specs.declared.target.Targets.{Targets}
use Rattle.targets.specs.declared.target.TargetsError.{TargetsError}
use Rattle.targets.specs.declared.target.TargetsError.TheVariants as targets
use Rattle.marks.specs.Refusals.{size_refused}
use Rattle.marks.specs.declared.sizes.SizeError.{SizeError}
use Rattle.marks.specs.declared.sizes.SizeError.TheVariants as size
use Rattle.trace.specs.Run.{ran_of}
use Rattle.trace.specs.Start.{started_of}
use Rattle.trace.specs.Step.{stepped_of}
use Rattle.trace.specs.declared.run.Ran.{Ran}
use Rattle.trace.specs.declared.run.RunError.{RunError}
use Rattle.trace.specs.declared.run.RunError.TheVariants as run
use Rattle.trace.specs.declared.step.Advance.{Advance}
use Rattle.trace.specs.declared.step.StepError.{StepError}
use Rattle.trace.specs.declared.step.StepError.TheVariants as step
use Rattle.sweep.specs.Sweep.{swept_of}
use Rattle.sweep.specs.declared.sweep.Tally.{Tally}
use Rattle.views.specs.View.{view_refused, viewed_of}
use Rattle.views.specs.declared.view.ViewError.{ViewError}
use Rattle.views.specs.declared.view.ViewError.TheVariants as view
use Rattle.map.specs.Ask.{asked_of}
use Rattle.map.specs.Update.{updated_of}
use Rattle.map.specs.declared.ask.AskError.{AskError}
use Rattle.map.specs.declared.ask.AskError.TheVariants as ask
use Rattle.map.specs.declared.update.UpdateError.{UpdateError}
use Rattle.map.specs.declared.update.UpdateError.TheVariants as update
use Rattle.replay.specs.Answers.{replayed_of}
use Rattle.replay.specs.declared.answer.Totals.{Totals}
use Rattle.replay.specs.declared.answer.ReplayError.{ReplayError}
use Rattle.replay.specs.declared.answer.ReplayError.TheVariants as replay
use Rattle.read_back.specs.Read.{read_of}
use Rattle.read_back.specs.declared.place.Place.{Place}
use Rattle.read_back.specs.declared.place.Record.{Record}
use Rattle.read_back.specs.declared.read.ReadError.{ReadError}
use Rattle.read_back.specs.Back.{restored_of}
use Rattle.read_back.specs.declared.back.RestoreError.{RestoreError}
use Rattle.read_back.specs.declared.back.RestoreError.TheVariants as restore
use Rattle.list_text.specs.Text.{parsed_of}
use Rattle.list_text.specs.declared.parsed.Input.{Input}
use Rattle.list_text.specs.declared.parsed.ParseError.{ParseError}
use Rattle.list_text.specs.declared.parsed.ParseError.TheVariants as parse
use Rattle.c_answers.specs.CodeLine.{lined_of}
use Rattle.c_answers.specs.declared.code.LineError.{LineError}
use Rattle.c_answers.specs.declared.code.LineError.TheVariants as lined
use Rattle.c_answers.specs.Reply.{of_result}
use Rattle.c_answers.specs.Lengths.{
  Small,
  alone,
  none,
  encode_lengths,
  targets_lengths,
  size_lengths,
  step_lengths,
  run_lengths,
  view_lengths,
  ask_lengths,
  update_lengths,
  totals_lengths,
  replay_lengths,
  found_lengths,
  read_lengths,
  restore_lengths,
  input_lengths,
  parse_lengths,
  line_lengths,
}
use Rattle.c_answers.proofs.Fitting.{Holds, Any, Short}
use Rattle.c_answers.proofs.InputBounds as input
use Rattle.c_answers.proofs.LogBounds as log
use Rattle.c_answers.proofs.ReadBounds as line

module _ {A : Type 0} (P : A → Type 0) where
  pub size_small : (e : SizeError) → Holds P (size_refused e) → Small (size_lengths e)
  size_small (size.LongImage n) h = h refl
  size_small (size.ShortMarks n) h = h refl

  pub view_small : (e : ViewError) → Holds P (view_refused e) → Small (view_lengths e)
  view_small (view.Size e) h = size_small e h
  view_small (view.Damaged p) h = tt
  view_small (view.NoRoom n) h = h refl

pub started_small : (r : Result ℕ SizeError) → Holds Any (started_of r) → Small (of_result none size_lengths r)
started_small (Ok n) h = tt
started_small (Err e) h = size_small Any e h

pub stepped_small : (r : Result Advance StepError) → Holds Any (stepped_of r) → Small (of_result none step_lengths r)
stepped_small (Ok a) h = tt
stepped_small (Err (step.Size e)) h = size_small Any e h
stepped_small (Err (step.NotWaiting v)) h = tt
stepped_small (Err (step.Cut c)) h = tt
stepped_small (Err (step.Damaged q)) h = tt

pub ran_small : (r : Result Ran RunError) → Holds Any (ran_of r) → Small (of_result none run_lengths r)
ran_small (Ok d) h = tt
ran_small (Err (run.Size e)) h = size_small Any e h
ran_small (Err (run.ShortOrder n)) h = h refl
ran_small (Err (run.Cut c)) h = tt

pub swept_small : (r : Result Tally SizeError) → Holds Any (swept_of r) → Small (of_result none size_lengths r)
swept_small (Ok t) h = tt
swept_small (Err e) h = size_small Any e h

pub encoded_small : (r : Result ℕ EncodeError) → Holds Short (encoded_of r) → Small (of_result alone encode_lengths r)
encoded_small (Ok n) h = (h, tt)
encoded_small (Err (encode.Unfit m)) h = tt
encoded_small (Err (encode.NoRoom n)) h = h refl

pub targeted_small : (r : Result Targets TargetsError) → Holds Any (targets_of r) → Small (of_result none targets_lengths r)
targeted_small (Ok t) h = tt
targeted_small (Err (targets.PastEnd n)) h = h refl
targeted_small (Err (targets.Unfit m)) h = tt

pub viewed_small : (r : Result ℕ ViewError) → Holds Short (viewed_of r) → Small (of_result alone view_lengths r)
viewed_small (Ok n) h = (h, tt)
viewed_small (Err e) h = view_small Short e h

pub asked_small : (r : Result ℕ AskError) → Holds Any (asked_of r) → Small (of_result none ask_lengths r)
asked_small (Ok v) h = tt
asked_small (Err (ask.LongImage n)) h = h refl
asked_small (Err (ask.NoRoom n)) h = h refl
asked_small (Err (ask.Outside p)) h = tt

pub updated_small : (r : Result ℕ UpdateError) → Holds Short (updated_of r) → Small (of_result alone update_lengths r)
updated_small (Ok n) h = (h, tt)
updated_small (Err (update.View e)) h = view_small Short e h
updated_small (Err (update.Outside p)) h = tt

pub replayed_small : (r : Result Totals ReplayError) → Holds log.Few (replayed_of r) → Small (of_result totals_lengths replay_lengths r)
replayed_small (Ok t) h = h
replayed_small (Err (replay.View e)) h = view_small log.Few e h
replayed_small (Err (replay.Malformed n)) h = h refl
replayed_small (Err (replay.Untraced n)) h = h refl
replayed_small (Err (replay.Forbidden n)) h = h refl
replayed_small (Err (replay.Full n)) h = h refl

pub found_small : (r : Result (Option (Record × Place)) ReadError) → Holds line.Few (read_of r) → Small (of_result found_lengths read_lengths r)
found_small (Ok (Some f)) h = (h, tt)
found_small (Ok None) h = tt
found_small (Err e) h = h refl

pub restored_small : (r : Result ℕ RestoreError) → Holds Short (restored_of r) → Small (of_result alone restore_lengths r)
restored_small (Ok k) h = (h, tt)
restored_small (Err (restore.Size e)) h = size_small Short e h
restored_small (Err (restore.NoRoom n)) h = h refl
restored_small (Err (restore.Malformed k)) h = h refl
restored_small (Err (restore.PastEnd k)) h = h refl

pub parsed_small : (r : Result Input ParseError) → Holds input.Few (parsed_of r) → Small (of_result input_lengths parse_lengths r)
parsed_small (Ok c) h = h
parsed_small (Err (parse.Malformed k)) h = h refl
parsed_small (Err (parse.NoRoom c)) h = h refl

pub lined_small : (r : Result ℕ LineError) → Holds Short (lined_of r) → Small (of_result alone line_lengths r)
lined_small (Ok n) h = (h, tt)
lined_small (Err (lined.Decode e)) h = tt
lined_small (Err (lined.PastEnd n)) h = h refl
lined_small (Err (lined.NoRoom n)) h = h refl
