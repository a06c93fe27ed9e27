-- What came so far is written, and there was room for it.
use Rattle.std.proofs.Common.{◌≡◌, ◌+◌, ◌-◌, ◌≤◌, length}
use Rattle.std.proofs.lemmas.List.Edits.{sets}
use Rattle.runner.proofs.handed.put.Given as goal

abbrev pub invariant-loop-b : goal.invariant-loop-b
invariant-loop-b g l =
    (l.room ≡ sets l.initial.room l.at l.yielded) × (l.next ≡ l.at + length l.yielded) × (length l.yielded ≤ length l.initial.room - l.at)
