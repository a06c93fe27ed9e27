-- The bytes that are left, put from here, are all, put from the start.
-- Assumes nothing.
use Rattle.std.proofs.Common.{◌≡◌, ◌+◌, length, drop}
use Rattle.text.proofs.Putting.{Going}
use Rattle.dis_text.proofs.message.put.Given as goal

abbrev pub invariant-loop-b : goal.invariant-loop-b
invariant-loop-b l =
    (l.to ≡ l.fn.at + l.b-index) × (length l.room ≡ length l.initial.room)
    × Going l.text l.initial.room l.fn.at l.room l.to (drop l.b-index l.text)
