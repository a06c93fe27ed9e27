-- What start answers and leaves. Document 01, 'Marks and steps', and refusals 1 and 2 in this order.
-- Assumes nothing.
use Rattle.std.specs.Prelude.{ℕ, List, length, Result, Ok, Err}
use Rattle.instruction.specs.Answer.{Answer, accepted, judge, after}
use Rattle.reach.specs.Note.{note, fresh}
use Rattle.reach.specs.Pins.{table}
use Rattle.marks.specs.Refusals.{size_refusals, size_refused}
use Rattle.marks.specs.declared.sizes.SizeError.{SizeError}

abbrev pub started_of : Result ℕ SizeError → Answer ℕ
started_of (Ok n) = accepted n
started_of (Err e) = size_refused e

-- the number of positions set
unfoldable pub start_answer : List ℕ → List ℕ → List ℕ → List ℕ → Answer ℕ
start_answer image marks entries pins =
    judge (size_refusals image marks) (length (fresh (length image) entries (table (length image) pins marks)))

-- the marks cleared, 4 at the pins inside the image (document 02, W8), and 1 at the entries inside that are not pinned
unfoldable pub start_marks : List ℕ → List ℕ → List ℕ → List ℕ → List ℕ
start_marks image marks entries pins = after (start_answer image marks entries pins) (note (length image) entries (table (length image) pins marks)) marks
