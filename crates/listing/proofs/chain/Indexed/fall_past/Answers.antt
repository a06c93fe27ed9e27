-- The one that is known stands further on.
-- Assumes nothing.
use Rattle.listing.proofs.Chaining.{fall_not}
use Rattle.listing.proofs.chain.Indexed.fall_past.Goals as goal

pub returns-then-f-q : goal.returns-then-f-q
returns-then-f-q c =
    let s = c.args.self.now in
    fall_not s.mode s.image.now s.marks.now s.small c.args.p c.args.q c.args.f c.requires.0 c.requires.1 c.if-f-q.true
