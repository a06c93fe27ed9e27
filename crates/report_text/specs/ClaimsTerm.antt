-- What is claimed of a term's text in blocks. Document 02, W14.
-- Assumes nothing.
use Rattle.std.specs.Prelude.{ℕ, ◌≤◌, true, List, ◌++◌, ◌≡◌, length}
use Rattle.report_text.specs.Report.{report_of}
use Rattle.report_text.specs.Sums.{fitting}
use Rattle.report_text.specs.Term.{State, state, begun, most, most_printed, step_out, fed_to, fed_out, close_out}

-- what is printed of a whole text, from a record that was just begun, and at its end, is the report, whatever stood in the room
abbrev pub ReportFed : Type 0
ReportFed = (text room : List ℕ) → most ≤ length room
    → fed_out (state begun room) text ++ close_out (fed_to (state begun room) text) ≡ report_of text

-- where a text is cut does not matter: two blocks, one after the other, print and leave what both do together
abbrev pub BlocksJoined : Type 0
BlocksJoined = (s : State) (a b : List ℕ)
    → (fed_out s (a ++ b) ≡ fed_out s a ++ fed_out (fed_to s a) b) × (fed_to s (a ++ b) ≡ fed_to (fed_to s a) b)

-- no input fails for want of room: what is printed at one byte, and at the end, is never longer than the room that is asked for
abbrev pub PrintedFits : Type 0
PrintedFits = (s : State) (b : ℕ) → fitting s.term.sums ≡ true → (length (step_out s b) ≤ most_printed) × (length (close_out s) ≤ most_printed)
