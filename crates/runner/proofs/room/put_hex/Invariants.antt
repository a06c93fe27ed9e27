-- The bytes of the pairs that are left, put from here, are all, put from the start.
use Rattle.std.proofs.Common.{◌≡◌, ◌+◌, ◌-◌, min, length}
use Rattle.std.specs.Slice.Iter.{chunks_rest, chunks_size}
use Rattle.std.proofs.lemmas.List.Edits.{sets}
use Rattle.runner.specs.Digits.{in_pairs}
use Rattle.runner.proofs.room.put_hex.Given as goal

abbrev pub invariant-loop-pair : goal.invariant-loop-pair
invariant-loop-pair l =
    (chunks_size l.pair-iterator ≡ 2) × (length l.room ≡ length l.initial.room)
    × (sets l.room l.next (in_pairs (chunks_rest l.pair-iterator)) ≡ sets l.initial.room l.fn.at (in_pairs l.fn.digits))
    × (l.next + min (length (in_pairs (chunks_rest l.pair-iterator))) (length l.room - l.next)
    ≡ l.fn.at + min (length (in_pairs l.fn.digits)) (length l.initial.room - l.fn.at))
