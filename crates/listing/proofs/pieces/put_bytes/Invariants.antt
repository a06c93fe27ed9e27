-- The bytes that are left, put from here, are those of all, put from the start.
-- Assumes nothing.
use Rattle.std.proofs.Common.{◌≡◌, ◌+◌, ◌*◌, ◌≤◌, length, drop}
use Rattle.listing.specs.Hex.{hexes}
use Rattle.text.proofs.Putting.{Going}
use Rattle.listing.proofs.pieces.put_bytes.Given as goal

abbrev pub invariant-loop-b : goal.invariant-loop-b
invariant-loop-b l =
    (l.a ≤ l.fn.at + 1 + 2 * l.b-index) × (length l.out ≡ length l.initial.out)
    × Going (hexes l.bytes) l.initial.out l.initial.a l.out l.a (hexes (drop l.b-index l.bytes))
