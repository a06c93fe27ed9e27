-- The digits of the bytes so far are put.
-- Assumes nothing.
use Rattle.std.proofs.Common.{◌≡◌, ◌+◌, ◌*◌, drop}
use Rattle.listing.specs.Hex.{hexes}
use Rattle.text.proofs.Putting.{Going}
use Rattle.unlist_text.proofs.line.put_line.Given as goal

abbrev pub invariant-loop-b : goal.invariant-loop-b
invariant-loop-b l = (l.a ≡ l.at + 2 * l.b-index) × Going (hexes l.bytes) l.fn.room l.at l.room l.a (hexes (drop l.b-index l.bytes))
