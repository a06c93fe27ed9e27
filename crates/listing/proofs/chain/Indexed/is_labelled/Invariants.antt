-- None before the one that is asked gives a target mark.
-- Assumes nothing.
use Rattle.std.proofs.Common.{◌≡◌, ◌-◌, length}
use Rattle.views.specs.Labels.{names}
use Rattle.arrivals.specs.Index.{lowest_of, next_namer}
use Rattle.listing.proofs.chain.Indexed.is_labelled.Given as goal

abbrev pub invariant-loop-q : goal.invariant-loop-q
invariant-loop-q l =
    (l.q ≡ next_namer l.self.mode l.self.image.now l.self.marks.now l.p l.q)
    × (lowest_of (names l.self.mode l.self.image.now l.self.marks.now l.p) (length l.self.image.now) l.q
    ≡ lowest_of (names l.self.mode l.self.image.now l.self.marks.now l.p) (length l.self.image.now) 0)

abbrev pub decreases-loop-q : goal.decreases-loop-q
decreases-loop-q l = length l.self.image.now - l.q
