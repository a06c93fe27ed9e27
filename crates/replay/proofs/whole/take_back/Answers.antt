-- `whole::take_back` meets its contract.
-- Assumes nothing.
use Rattle.std.proofs.Common.{◌≡◌, ℕ, ◌-◌, ◌/◌, ◌<◌, List, length, get_or, refl, sym, subst, arith}
use Rattle.replay.specs.Line.{position_at}
use Rattle.replay.specs.Back.{less, taken_back, Counted}
use Rattle.replay.proofs.Backing.{back_here, back_next, back_told, back_end}
use Rattle.replay.proofs.Chunks.{line_in}
use Rattle.replay.proofs.whole.take_back.Goals as goal
use Rattle.replay.proofs.whole.take_back.Goals.{After-position_of}

place : (c : After-position_of) → c.position_of.result ≡ position_at c.args.text.now (c.loop-k.k - 1)
place c =
    let k : ℕ = c.loop-k.k in
    let text : List ℕ = c.args.text.now in
    let h = c.loop-k-test.true in
    let n : k - 1 < length text / 7 = omega (arith, h, c.loop-k.auto.k, c.requires.0) in
    back_told text k h c.position_of.result _ (line_in text _ _ (k - 1) c.as_chunks.ensures.front n) c.position_of.ensures

here : (c : After-position_of)
    → (c.position_of.result < length c.loop-k.counts)
    × (0 < get_or c.loop-k.counts c.position_of.result 0)
here c =
    let w = back_here c.args.text.now c.loop-k.k c.loop-k-test.true c.loop-k.counts c.loop-k.invariant.0 in
    rw (place c) (w.0, w.1)

pub loop-k-init : goal.loop-k-init
loop-k-init c = (c.requires.1, refl)

pub bounds-counts-position_of : goal.bounds-counts-position_of
bounds-counts-position_of c = (here (goal.at.bounds-counts-position_of c).After-position_of).0

pub overflow_sub-counts : goal.overflow_sub-counts
overflow_sub-counts c = (here (goal.at.overflow_sub-counts c).After-position_of).1

pub bounds-counts-position_of-in-loop-k : goal.bounds-counts-position_of-in-loop-k
bounds-counts-position_of-in-loop-k c = (here (goal.at.bounds-counts-position_of-in-loop-k c).After-position_of).0

pub loop-k-preserved : goal.loop-k-preserved
loop-k-preserved c =
    let k : ℕ = c.loop-k.k in
    let text : List ℕ = c.args.text.now in
    let h = c.loop-k-test.true in
    let e = place (goal.at.loop-k-preserved c).After-position_of in
    let w = back_here text k h c.loop-k.counts c.loop-k.invariant.0 in (
      subst (λ (p : ℕ). Counted text (k - 1) (less c.loop-k.counts p)) (sym e) w.2,
      subst (λ (p : ℕ). taken_back text (k - 1) (less c.loop-k.counts p) ≡ taken_back text c.args.lines c.args.counts.now) (sym e)
          (back_next text k h c.loop-k.counts _ c.loop-k.invariant.1),
    )

pub returns : goal.returns
returns c = back_end c.args.text.now c.loop-k.counts _ c.loop-k.k c.loop-k-test.false c.loop-k.invariant.1
