-- A step at each arrival.
-- Assumes nothing.
use Rattle.std.proofs.Common.{◌≡◌, ◌+◌, ◌<◌, ◌++◌, ◌∷◌, [], min, List, ℕ, length, map, refl, ap, ◌∙◌, arith}
use Rattle.instruction.specs.declared.mode.Mode.{Mode}
use Rattle.arrivals.specs.Arrivals.{next_arrival}
use Rattle.arrivals.specs.ClaimsIndex.{OfBytes}
use Rattle.arrivals.specs.Index.{next_held, next_fall}
use Rattle.arrivals.proofs.Arriving.{left_from, all_left, none_left, few, next_is, passed}
use Rattle.text.proofs.Putting.{going_from, going_next, going_over, puts_length, puts_most}
use Rattle.listing.specs.Hex.{hex4}
use Rattle.listing.specs.Line.{fields_text}
use Rattle.listing.proofs.Chaining.{lower_arrival, held_kept, fall_kept}
use Rattle.listing.proofs.Lining.{puts_place}
use Rattle.listing.proofs.lines.put_arrived.Goals as goal

-- the lower of both is the next arrival
lowest : (mode : Mode) (image marks : List ℕ) → OfBytes image → (p : ℕ) → p < length image → (k c f q : ℕ) → c ≡ next_held mode image marks p k
    → f ≡ next_fall mode image marks p k → q ≡ min c f → q ≡ next_arrival mode image marks p k
lowest mode image marks b p i k c f q e d g = g ∙ lower_arrival mode image marks b p i k c f e d

pub loop-q-init : goal.loop-q-init
loop-q-init c =
    let s = c.args.lent.now in
    let p = c.args.p in
    let q = c.min-q.result in
    let v = c.requires in
    let l = lowest s.mode s.image.now s.marks.now s.small p v.1 0 c.args.named c.args.falls q v.2 v.3 c.min-q.ensures in
    let n = next_is s.mode s.image.now s.marks.now p s.small.1 0 q l in
    let e = n.same ∙ all_left s.mode s.image.now s.marks.now p in (
      refl,
      omega (arith, ap length e, few s.mode s.image.now s.marks.now p, s.small.1),
      going_from c.args.out.now c.args.at (ap (λ (qs : List ℕ). fields_text (map hex4 qs)) e),
      n.head,
      held_kept s.mode s.image.now s.marks.now s.small p v.1 0 q c.args.named l v.2,
      fall_kept s.mode s.image.now s.marks.now s.small p v.1 0 q c.args.falls l v.3,
    )

pub loop-q-preserved : goal.loop-q-preserved
unfolding fields_text
loop-q-preserved c =
    let s = c.args.lent.now in
    let p = c.args.p in
    let j = c.loop-q.q + 1 in
    let q = c.min-q-in-loop-q.result in
    let v = c.loop-q.invariant in
    let l = lowest s.mode s.image.now s.marks.now s.small p c.requires.1 j c.held_past-c.result c.fall_past-f.result q
    c.held_past-c.ensures c.fall_past-f.ensures c.min-q-in-loop-q.ensures in
    let n = next_is s.mode s.image.now s.marks.now p s.small.1 j q l in
    let t = passed s.mode s.image.now s.marks.now p s.small.1 c.loop-q.q q c.loop-q-test.true v.3 n in
    let h = puts_place c.loop-q.q c.put_place-a.ensures in (
      puts_length c.put_place-a.ensures ∙ v.0,
      omega (arith, h, v.1, ap length t),
      going_next v.2 (ap (λ (qs : List ℕ). fields_text (map hex4 qs)) t) c.put_place-a.ensures,
      n.head,
      held_kept s.mode s.image.now s.marks.now s.small p c.requires.1 j q c.held_past-c.result l c.held_past-c.ensures,
      fall_kept s.mode s.image.now s.marks.now s.small p c.requires.1 j q c.fall_past-f.result l c.fall_past-f.ensures,
    )

pub loop-q-smaller : goal.loop-q-smaller
loop-q-smaller c =
    let s = c.args.lent.now in
    let p = c.args.p in
    let l = lowest s.mode s.image.now s.marks.now s.small p c.requires.1 (c.loop-q.q + 1) c.held_past-c.result c.fall_past-f.result c.min-q-in-loop-q.result
    c.held_past-c.ensures c.fall_past-f.ensures c.min-q-in-loop-q.ensures in
    let n = next_is s.mode s.image.now s.marks.now p s.small.1 (c.loop-q.q + 1) c.min-q-in-loop-q.result l in
    let t = passed s.mode s.image.now s.marks.now p s.small.1 c.loop-q.q c.min-q-in-loop-q.result c.loop-q-test.true c.loop-q.invariant.3 n in
    omega (arith, ap length t)

pub returns-clause-puts : goal.returns-clause-puts
unfolding fields_text
returns-clause-puts c =
    let s = c.args.lent.now in
    let z : fields_text (map hex4 (left_from s.mode s.image.now s.marks.now c.args.p c.loop-q.q)) ≡ 10 ∷ [] =
    ap (λ (qs : List ℕ). fields_text (map hex4 qs)) (none_left s.mode s.image.now s.marks.now c.args.p c.loop-q.q c.loop-q-test.false) in
    going_over (going_next c.loop-q.invariant.2 z c.put_byte.ensures) refl
