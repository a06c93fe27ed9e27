-- The fields that are left, put from here, are those of all, put from the start.
-- Assumes nothing.
use Rattle.std.proofs.Common.{◌≡◌, ◌+◌, ◌*◌, ◌≤◌, length, drop, map}
use Rattle.listing.specs.Hex.{hex4}
use Rattle.listing.specs.Line.{fields_text}
use Rattle.text.proofs.Putting.{Going}
use Rattle.listing.proofs.lines.put_places.Given as goal

abbrev pub invariant-loop-p : goal.invariant-loop-p
invariant-loop-p l =
    (l.a ≤ l.fn.at + 5 * l.p-index) × (length l.out ≡ length l.initial.out)
    × Going (fields_text (map hex4 l.places)) l.initial.out l.fn.at l.out l.a (fields_text (map hex4 (drop l.p-index l.places)))
