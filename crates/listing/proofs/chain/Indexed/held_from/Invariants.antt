-- None before the one that is asked arrives by the name.
-- Assumes nothing.
use Rattle.std.proofs.Common.{◌≡◌, ◌-◌, length}
use Rattle.arrivals.specs.Index.{next_namer, next_held}
use Rattle.listing.proofs.chain.Indexed.held_from.Given as goal

abbrev pub invariant-loop-q : goal.invariant-loop-q
invariant-loop-q l =
    (l.q ≡ next_namer l.self.mode l.self.image.now l.self.marks.now l.p l.q)
    × (next_held l.self.mode l.self.image.now l.self.marks.now l.p l.q ≡ next_held l.self.mode l.self.image.now l.self.marks.now l.p l.c)

abbrev pub decreases-loop-q : goal.decreases-loop-q
decreases-loop-q l = length l.self.image.now - l.q
