-- The lines of the bytes that the iterator is past are put.
-- Assumes nothing.
use Rattle.std.proofs.Common.{◌≡◌}
use Rattle.std.specs.Slice.Iter.{chunks_rest, chunks_size}
use Rattle.text.proofs.Putting.{Going}
use Rattle.unlist_text.specs.Unlisted.{image_text}
use Rattle.unlist_text.proofs.line.put_lines.Given as goal

abbrev pub invariant-loop-bytes : goal.invariant-loop-bytes
invariant-loop-bytes l =
    (chunks_size l.bytes-iterator ≡ 32) × Going (image_text l.image) l.fn.room 0 l.room l.at (image_text (chunks_rest l.bytes-iterator))
