-- The one that is known stands further on, or the next of the index is asked.
-- Assumes nothing.
use Rattle.std.proofs.Common.{◌≡◌, ◌∙◌, List, ℕ, ap}
use Rattle.arrivals.specs.Index.{next_in}
use Rattle.listing.proofs.Chaining.{held_at, held_not}
use Rattle.listing.proofs.chain.Indexed.held_past.Goals as goal

pub returns-then-c-q : goal.returns-then-c-q
returns-then-c-q c =
    let s = c.args.self.now in
    held_not s.mode s.image.now s.marks.now s.small c.args.p c.args.q c.args.c c.requires.0 c.requires.1 c.if-c-q.true

pub held_from-requires : goal.held_from-requires
held_from-requires c =
    let s = c.args.self.now in
    let e = c.next.ensures ∙ ap (λ (i : List ℕ). next_in i c.args.q) s.made in
    (held_at s.mode s.image.now s.marks.now s.small c.args.p c.args.q c.args.c c.next.result c.requires.0 c.requires.1 c.if-c-q.false e).0

pub returns : goal.returns
returns c =
    let s = c.args.self.now in
    let e = c.next.ensures ∙ ap (λ (i : List ℕ). next_in i c.args.q) s.made in
    c.held_from.ensures
    ∙ (held_at s.mode s.image.now s.marks.now s.small c.args.p c.args.q c.args.c c.next.result c.requires.0 c.requires.1 c.if-c-q.false e).1
