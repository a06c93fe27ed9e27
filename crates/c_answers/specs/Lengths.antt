-- What the functions that make replies ask of their callers; no contract of a public call cites it. A value of a reply has 64 bits with a
-- sign, so that a number of 64 bits has to be below 2 ^ 63. Document 01, 'Numbers given when a call says no': refusals 1, 2, 3, 11, 13 and 14,
-- and document 02, W1, W3 and W10: 15, 16 and 18 to 21.
-- Assumes nothing.
use Rattle.std.specs.Prelude.{Option, Some, None, ℕ, List, [], ◌∷◌, ◌<◌, ◌^◌}
use Rattle.instruction.specs.declared.encode.EncodeError.{EncodeError}
use Rattle.instruction.specs.declared.encode.EncodeError.TheVariants as encode
use Rattle.targets.specs.declared.target.TargetsError.{TargetsError}
use Rattle.targets.specs.declared.target.TargetsError.TheVariants as targets
use Rattle.marks.specs.declared.sizes.SizeError.{SizeError}
use Rattle.marks.specs.declared.sizes.SizeError.TheVariants as size
use Rattle.trace.specs.declared.step.StepError.{StepError}
use Rattle.trace.specs.declared.step.StepError.TheVariants as step
use Rattle.trace.specs.declared.run.RunError.{RunError}
use Rattle.trace.specs.declared.run.RunError.TheVariants as run
use Rattle.views.specs.declared.view.ViewError.{ViewError}
use Rattle.views.specs.declared.view.ViewError.TheVariants as view
use Rattle.map.specs.declared.ask.AskError.{AskError}
use Rattle.map.specs.declared.ask.AskError.TheVariants as ask
use Rattle.map.specs.declared.update.UpdateError.{UpdateError}
use Rattle.map.specs.declared.update.UpdateError.TheVariants as update
use Rattle.replay.specs.declared.answer.Totals.{Totals}
use Rattle.replay.specs.declared.answer.ReplayError.{ReplayError}
use Rattle.replay.specs.declared.answer.ReplayError.TheVariants as replay
use Rattle.read_back.specs.declared.place.Place.{Place}
use Rattle.read_back.specs.declared.place.Record.{Record}
use Rattle.read_back.specs.declared.read.ReadError.{ReadError}
use Rattle.read_back.specs.declared.back.RestoreError.{RestoreError}
use Rattle.read_back.specs.declared.back.RestoreError.TheVariants as restore
use Rattle.list_text.specs.declared.parsed.Input.{Input}
use Rattle.list_text.specs.declared.parsed.ParseError.{ParseError}
use Rattle.list_text.specs.declared.parsed.ParseError.TheVariants as parse
use Rattle.c_answers.specs.declared.code.LineError.{LineError}
use Rattle.c_answers.specs.declared.code.LineError.TheVariants as line

-- each of them fits a value
abbrev pub Small : List ℕ → Type 0
Small [] = Unit {0}
Small (n ∷ ns) = (n < 2 ^ 63) × Small ns

-- a length by itself
abbrev pub alone : ℕ → List ℕ
alone n = n ∷ []

-- all that is told has fewer bits
abbrev pub none : {A : Type 0} → A → List ℕ
none a = []

abbrev pub encode_lengths : EncodeError → List ℕ
encode_lengths (encode.Unfit m) = []
encode_lengths (encode.NoRoom n) = n ∷ []

abbrev pub targets_lengths : TargetsError → List ℕ
targets_lengths (targets.PastEnd n) = n ∷ []
targets_lengths (targets.Unfit m) = []

abbrev pub size_lengths : SizeError → List ℕ
size_lengths (size.LongImage n) = n ∷ []
size_lengths (size.ShortMarks n) = n ∷ []

abbrev pub step_lengths : StepError → List ℕ
step_lengths (step.Size e) = size_lengths e
step_lengths (step.NotWaiting v) = []
step_lengths (step.Cut c) = []
step_lengths (step.Damaged q) = []

abbrev pub run_lengths : RunError → List ℕ
run_lengths (run.Size e) = size_lengths e
run_lengths (run.ShortOrder n) = n ∷ []
run_lengths (run.Cut c) = []

abbrev pub view_lengths : ViewError → List ℕ
view_lengths (view.Size e) = size_lengths e
view_lengths (view.Damaged p) = []
view_lengths (view.NoRoom n) = n ∷ []

abbrev pub ask_lengths : AskError → List ℕ
ask_lengths (ask.LongImage n) = n ∷ []
ask_lengths (ask.NoRoom n) = n ∷ []
ask_lengths (ask.Outside p) = []

abbrev pub update_lengths : UpdateError → List ℕ
update_lengths (update.View e) = view_lengths e
update_lengths (update.Outside p) = []

abbrev pub totals_lengths : Totals → List ℕ
totals_lengths t = t.lines ∷ t.interrupts ∷ t.free ∷ []

abbrev pub replay_lengths : ReplayError → List ℕ
replay_lengths (replay.View e) = view_lengths e
replay_lengths (replay.Malformed n) = n ∷ []
replay_lengths (replay.Untraced n) = n ∷ []
replay_lengths (replay.Forbidden n) = n ∷ []
replay_lengths (replay.Full n) = n ∷ []

-- how many positions or bytes follow on a line
abbrev pub found_lengths : Option (Record × Place) → List ℕ
found_lengths (Some f) = f.0.count ∷ []
found_lengths None = []

-- a line's number
abbrev pub read_lengths : ReadError → List ℕ
read_lengths e = e.line ∷ []

abbrev pub restore_lengths : RestoreError → List ℕ
restore_lengths (restore.Size e) = size_lengths e
restore_lengths (restore.NoRoom n) = n ∷ []
restore_lengths (restore.Malformed k) = k ∷ []
restore_lengths (restore.PastEnd k) = k ∷ []

-- both counts of an input
abbrev pub input_lengths : Input → List ℕ
input_lengths c = c.entries ∷ c.bytes ∷ []

abbrev pub parse_lengths : ParseError → List ℕ
parse_lengths (parse.Malformed k) = k ∷ []
parse_lengths (parse.NoRoom c) = input_lengths c

abbrev pub line_lengths : LineError → List ℕ
line_lengths (line.Decode e) = []
line_lengths (line.PastEnd n) = n ∷ []
line_lengths (line.NoRoom n) = n ∷ []
