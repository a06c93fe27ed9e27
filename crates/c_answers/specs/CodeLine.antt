-- One `I` line by itself, as the exported call answers it. Document 01, 'The listing', and refusals 12 and 5 as in decode, 14 as in 'Targets',
-- then 11. Their order is ours.
-- Assumes nothing.
use Rattle.std.specs.Prelude.{Result, Ok, Err, ℕ, ◌+◌, List, [], ◌∷◌, ltb, pos}
use Rattle.instruction.specs.Answer.{Answer, accepted, refused, Refusal, refuse, after, laid}
use Rattle.instruction.specs.Decode.{decode_refused, decode_answer}
use Rattle.instruction.specs.declared.mode.Mode.{Mode}
use Rattle.targets.specs.At.{size_here}
use Rattle.trace.specs.Run.{and_then}
use Rattle.views.specs.View.{room_answer}
use Rattle.listing.specs.Lines.{code_line}
use Rattle.c_answers.specs.declared.code.LineError.{LineError}
use Rattle.c_answers.specs.declared.code.LineError.TheVariants.{Decode, PastEnd, NoRoom}

-- of an inner function: the number and values of each refusal
abbrev pub line_refused : {A : Type 0} → LineError → Answer A
line_refused (Decode e) = decode_refused e
line_refused (PastEnd n) = refused 14 (pos n ∷ [])
line_refused (NoRoom n) = refused 11 (pos n ∷ [])

abbrev pub lined_of : Result ℕ LineError → Answer ℕ
lined_of (Ok n) = accepted n
lined_of (Err e) = line_refused e

-- next of the instruction that bytes at p begin with: over 65,536 it is refused
abbrev pub next_refusals : ℕ → List ℕ → List Refusal
next_refusals p bytes = let next : ℕ = p + size_here bytes 0 in refuse (ltb 65536 next) 14 (pos next ∷ []) ∷ []

-- what decode refuses, 14, 11; accepted with how many bytes were written
unfoldable pub code_line_answer : Mode → ℕ → List ℕ → List ℕ → Answer ℕ
code_line_answer mode p bytes room = and_then (decode_answer bytes) (room_answer (next_refusals p bytes) (code_line mode p bytes) room)

-- the line is laid over the beginning of the room; a refusal changes nothing
unfoldable pub code_line_room : Mode → ℕ → List ℕ → List ℕ → List ℕ
code_line_room mode p bytes room = after (code_line_answer mode p bytes room) (laid (code_line mode p bytes) room) room
