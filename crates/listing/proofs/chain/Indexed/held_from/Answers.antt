-- A step along the index.
-- Assumes nothing.
use Rattle.std.proofs.Common.{◌≡◌, ◌∙◌, List, ℕ, sym, ap, arith}
use Rattle.arrivals.specs.Index.{names_held, next_in}
use Rattle.arrivals.proofs.Lowest.{low_past}
use Rattle.listing.proofs.Chaining.{namer_marked, chain_up, chain_over, held_fewer, flash_not, held_found}
use Rattle.listing.proofs.chain.Indexed.held_from.Goals as goal

pub bounds-self-q : goal.bounds-self-q
bounds-self-q c =
    let s = c.args.self.now in
    namer_marked s.mode s.image.now s.marks.now s.small c.args.p c.loop-q.q c.loop-q-test.true c.loop-q.invariant.0

pub returns-then-self-q-ne-FLASH : goal.returns-then-self-q-ne-FLASH
returns-then-self-q-ne-FLASH c =
    let s = c.args.self.now in
    sym (held_found s.mode s.image.now s.marks.now s.small c.args.p c.loop-q.q c.loop-q-test.true c.loop-q.invariant.0 c.if-self-q-ne-FLASH.true)
    ∙ c.loop-q.invariant.1

pub loop-q-preserved : goal.loop-q-preserved
loop-q-preserved c =
    let s = c.args.self.now in
    let e = c.next-q.ensures ∙ ap (λ (i : List ℕ). next_in i c.loop-q.q) s.made in
    let g = flash_not s.mode s.image.now s.marks.now s.small c.args.p c.loop-q.q c.if-self-q-ne-FLASH.false in
    let y = chain_over s.mode s.image.now s.marks.now s.small c.args.p (names_held s.mode s.image.now s.marks.now c.args.p)
    (held_fewer s.mode s.image.now s.marks.now s.small c.args.p) c.loop-q.q c.next-q.result c.loop-q-test.true c.loop-q.invariant.0 e g in
    (y.0, y.1 ∙ c.loop-q.invariant.1)

pub loop-q-smaller : goal.loop-q-smaller
loop-q-smaller c =
    let s = c.args.self.now in
    let e = c.next-q.ensures ∙ ap (λ (i : List ℕ). next_in i c.loop-q.q) s.made in
    let g = chain_up s.mode s.image.now s.marks.now s.small c.args.p c.loop-q.q c.next-q.result c.loop-q-test.true c.loop-q.invariant.0 e in
    omega (arith, g)

pub returns : goal.returns
returns c =
    let s = c.args.self.now in
    sym (low_past (names_held s.mode s.image.now s.marks.now c.args.p) _ c.loop-q.q c.loop-q-test.false) ∙ c.loop-q.invariant.1
