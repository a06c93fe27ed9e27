-- The letters that are left, put from here, are those of all, put from the start.
-- Assumes nothing.
use Rattle.std.proofs.Common.{◌≡◌, ◌+◌, ◌-◌, ◌≤◌, length}
use Rattle.text.specs.Puts.{letters}
use Rattle.text.proofs.Putting.{Going}
use Rattle.listing.proofs.pieces.put_word.Given as goal

abbrev pub invariant-loop : goal.invariant-loop
invariant-loop l =
    (l.a ≤ l.fn.at + 1 + l.counter) × (length l.out ≡ length l.initial.out)
    × Going (letters 8 l.fn.word) l.initial.out l.initial.a l.out l.a (letters (8 - l.counter) l.w)
