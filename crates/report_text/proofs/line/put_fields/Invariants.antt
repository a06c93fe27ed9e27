-- The numbers so far are put, and there is room for those that are left.
use Rattle.std.proofs.Common.{◌≡◌, ◌+◌, ◌*◌, ◌≤◌, length, drop}
use Rattle.text.proofs.Putting.{Going}
use Rattle.report_text.specs.Report.{fields_of}
use Rattle.report_text.proofs.line.put_fields.Given as goal

abbrev pub invariant-loop-number : goal.invariant-loop-number
invariant-loop-number l =
    (length l.room ≡ length l.fn.room) × (l.to ≤ l.at + 21 * l.number-index)
    × Going (fields_of l.numbers) l.fn.room l.at l.room l.to (fields_of (drop l.number-index l.numbers))
