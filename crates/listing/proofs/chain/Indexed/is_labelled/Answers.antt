-- A step along the index.
-- Assumes nothing.
use Rattle.std.proofs.Common.{◌≡◌, ◌∙◌, ◌<◌, false, List, ℕ, length, sym, ap, arith}
use Rattle.instruction.specs.declared.mode.Mode.{Mode}
use Rattle.views.specs.Labels.{names}
use Rattle.arrivals.specs.ClaimsIndex.{OfBytes}
use Rattle.arrivals.specs.Index.{names_it, first_in, next_in}
use Rattle.listing.proofs.Chaining.{names_here, chain_up, chain_first, chain_over, exempt_not, named_so, unnamed_not, label_found, label_none}
use Rattle.listing.proofs.chain.Indexed.is_labelled.Goals as goal

-- who does not name p gives it no target mark
fewer : (mode : Mode) (image marks : List ℕ) → OfBytes image → (p : ℕ) → p < length image → (r : ℕ) → r < length image → names_it mode image marks p r ≡ false
    → names mode image marks p r ≡ false
fewer mode image marks b p i r h = unnamed_not mode image marks b p i r h

pub loop-q-init : goal.loop-q-init
loop-q-init c =
    let s = c.args.self.now in
    chain_first s.mode s.image.now s.marks.now s.small c.args.p (names s.mode s.image.now s.marks.now c.args.p)
    (fewer s.mode s.image.now s.marks.now s.small c.args.p c.requires) c.requires c.first-q.result
    (c.first-q.ensures ∙ ap (λ (l : List ℕ). first_in l c.args.p) s.made)

pub returns-then-not-is_exempt : goal.returns-then-not-is_exempt
returns-then-not-is_exempt c =
    let s = c.args.self.now in
    let v = c.loop-q.invariant in
    let g = named_so s.mode s.image.now s.marks.now s.small c.args.p c.requires c.loop-q.q c.loop-q-test.true
    (sym c.is_exempt.ensures ∙ c.if-not-is_exempt.true) (names_here s.mode s.image.now s.marks.now s.small c.args.p c.loop-q.q c.loop-q-test.true v.0) in
    label_found s.mode s.image.now s.marks.now s.small c.args.p c.loop-q.q c.loop-q-test.true g v.1

pub loop-q-preserved : goal.loop-q-preserved
loop-q-preserved c =
    let s = c.args.self.now in
    let e = c.next-q.ensures ∙ ap (λ (i : List ℕ). next_in i c.loop-q.q) s.made in
    let g = exempt_not s.mode s.image.now s.marks.now s.small c.args.p c.requires c.loop-q.q c.loop-q-test.true
    (sym c.is_exempt.ensures ∙ c.if-not-is_exempt.false) in
    let y = chain_over s.mode s.image.now s.marks.now s.small c.args.p (names s.mode s.image.now s.marks.now c.args.p)
    (fewer s.mode s.image.now s.marks.now s.small c.args.p c.requires) c.loop-q.q c.next-q.result c.loop-q-test.true c.loop-q.invariant.0 e g in
    (y.0, y.1 ∙ c.loop-q.invariant.1)

pub loop-q-smaller : goal.loop-q-smaller
loop-q-smaller c =
    let s = c.args.self.now in
    let e = c.next-q.ensures ∙ ap (λ (i : List ℕ). next_in i c.loop-q.q) s.made in
    let g = chain_up s.mode s.image.now s.marks.now s.small c.args.p c.loop-q.q c.next-q.result c.loop-q-test.true c.loop-q.invariant.0 e in
    omega (arith, g)

pub returns : goal.returns
returns c =
    let s = c.args.self.now in
    label_none s.mode s.image.now s.marks.now s.small c.args.p c.loop-q.q c.loop-q-test.false c.loop-q.invariant.1
