-- The fields of the arrivals that are left, put from here, are those of all, put from the start.
-- Assumes nothing.
use Rattle.std.proofs.Common.{◌≡◌, ◌+◌, ◌*◌, ◌<◌, ◌≤◌, ◌∷◌, map, length}
use Rattle.arrivals.specs.Arrivals.{arrivals_of}
use Rattle.arrivals.specs.Index.{next_held, next_fall}
use Rattle.arrivals.proofs.Arriving.{left_from}
use Rattle.text.proofs.Putting.{Going}
use Rattle.listing.specs.Hex.{hex4}
use Rattle.listing.specs.Line.{fields_text}
use Rattle.listing.proofs.lines.put_arrived.Given as goal

abbrev pub invariant-loop-q : goal.invariant-loop-q
invariant-loop-q l =
    let mode = l.lent.mode in
    let image = l.lent.image.now in
    let marks = l.lent.marks.now in
    (length l.out ≡ length l.initial.out)
    × (l.a + 5 * length (left_from mode image marks l.p l.q) ≤ l.fn.at + 327680)
    × Going (fields_text (map hex4 (arrivals_of mode image marks l.p))) l.initial.out l.fn.at l.out l.a
    (fields_text (map hex4 (left_from mode image marks l.p l.q)))
    × (l.q < length image → left_from mode image marks l.p l.q ≡ l.q ∷ left_from mode image marks l.p (l.q + 1))
    × (l.c ≡ next_held mode image marks l.p l.q)
    × (l.f ≡ next_fall mode image marks l.p l.q)

abbrev pub decreases-loop-q : goal.decreases-loop-q
decreases-loop-q l = length (left_from l.lent.mode l.lent.image.now l.lent.marks.now l.p l.q)
