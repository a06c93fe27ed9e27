-- What is not found of `index_fill::index_into`: what is filled.
-- Assumes nothing.
use mathlib.Core.Path.{◌≡◌, sym, subst, ◌∙◌}
use mathlib.Core.List.{List}
use Prim.Native.Nat.{ℕ, ◌-◌}
use native.Mathlib.Omega.{arith}
use lib.ListN.{length}
use Rattle.arrivals.specs.Entered.{Entered}
use Rattle.arrivals.proofs.Indexing.{blank_entered, all_entered, past_room, other_room, own_room}
use Rattle.arrivals.proofs.index_fill.index_into.Goals as goal

pub returns-then-image-gt-LIMIT : goal.returns-then-image-gt-LIMIT
returns-then-image-gt-LIMIT c =
    let a = c.args in
    let r = past_room a.mode a.image.now a.marks.now a.index.now c.if-image-gt-LIMIT.true in
    record { value = r.0; index_after = r.1 }

pub returns-then-index-image : goal.returns-then-index-image
returns-then-index-image c =
    let a = c.args in
    let r = other_room a.mode a.image.now a.marks.now a.index.now c.if-image-gt-LIMIT.false c.if-index-image.true in
    record { value = r.0; index_after = r.1 }

pub loop-q-init : goal.loop-q-init
loop-q-init c =
    let a = c.args in
    let e : length a.image.now - 1 ≡ c.saturating_sub-q.result = omega arith in
    subst (λ (k : ℕ). Entered a.mode a.image.now a.marks.now k c.fill.new.self) e
    (subst (λ (l : List ℕ). Entered a.mode a.image.now a.marks.now (length a.image.now - 1) l) (sym (c.fill.ensures.after (λ y h. h)))
    (blank_entered a.mode a.image.now a.marks.now (λ n. (c.type_inv.image n).fits) c.if-image-gt-LIMIT.false (length a.index.now) c.if-index-image.false))

pub returns-clause-index_after : goal.returns-clause-index_after
returns-clause-index_after c =
    let a = c.args in
    let z : c.loop-q.q ≡ 0 = omega arith in
    all_entered a.mode a.image.now a.marks.now c.loop-q.index
    (subst (λ (k : ℕ). Entered a.mode a.image.now a.marks.now k c.loop-q.index) z c.loop-q.invariant)
    ∙ (own_room a.mode a.image.now a.marks.now a.index.now c.if-image-gt-LIMIT.false c.if-index-image.false).1
