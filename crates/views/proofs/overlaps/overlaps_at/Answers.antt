-- What is not found of `overlaps::overlaps_at`: which positions are taken.
-- Assumes nothing.
use mathlib.Core.Path.{◌≡◌, refl, sym, ap, ◌∙◌}
use mathlib.Core.Bool.{Bool, true, false, cond}
use mathlib.Core.List.{List, [], ◌++◌}
use Prim.Native.Nat.{ℕ, ◌+◌, ◌-◌}
use native.Mathlib.Omega.{arith}
use Rattle.std.proofs.Common.{Option, Some, None}
use Rattle.targets.proofs.Within.{size_short}
use Rattle.views.specs.Positions.{traced_at}
use Rattle.views.specs.Overlaps.{overlaps_in, position_in, from_before}
use Rattle.views.proofs.Kept.{taken}
use Rattle.views.proofs.Overlapping.{past_limit, untraced, one_byte, two_bytes, three_bytes}
use Rattle.views.proofs.overlaps.overlaps_at.Goals as goal

-- one more is taken where the test says so
more : (k l : List ℕ) (next : Option ℕ) (t : Bool) (q : ℕ) → l ≡ k ++ position_in next → next ≡ cond t (Some q) None → l ≡ k ++ taken t q
more k l next true q e f = e ∙ ap (λ (o : Option ℕ). k ++ position_in o) f
more k l next false q e f = e ∙ ap (λ (o : Option ℕ). k ++ position_in o) f

pub returns-then-image-gt-LIMIT : goal.returns-then-image-gt-LIMIT
returns-then-image-gt-LIMIT c = let a = c.args in past_limit a.image.now a.marks.now a.p c.if-image-gt-LIMIT.true

pub returns-then-not-is_traced_at : goal.returns-then-not-is_traced_at
returns-then-not-is_traced_at c =
    let a = c.args in untraced a.image.now a.marks.now a.p (sym c.is_traced_at.ensures ∙ c.if-not-is_traced_at.true)

pub returns-then-size-lt2 : goal.returns-then-size-lt2
returns-then-size-lt2 c =
    let a = c.args in
    let before = from_before a.image.now a.marks.now a.p in
    one_byte a.image.now a.marks.now a.p c.if-image-gt-LIMIT.false (sym c.is_traced_at.ensures ∙ c.if-not-is_traced_at.false)
    c.size_at-size.result c.size_at-size.ensures (overlaps_in c.with-back.result) (more [] _ c.behind.result before (a.p - 1) c.with-back.ensures c.behind.ensures)
    c.if-size-lt2.true

pub returns-then-size-lt3 : goal.returns-then-size-lt3
returns-then-size-lt3 c =
    let a = c.args in
    let before = from_before a.image.now a.marks.now a.p in
    let t = traced_at a.image.now a.marks.now (a.p + 1) in
    two_bytes a.image.now a.marks.now a.p c.if-image-gt-LIMIT.false (sym c.is_traced_at.ensures ∙ c.if-not-is_traced_at.false)
    c.size_at-size.result c.size_at-size.ensures (overlaps_in c.with-back.result) (more [] _ c.behind.result before (a.p - 1) c.with-back.ensures c.behind.ensures)
    (overlaps_in c.with-ahead.result) t (more _ _ c.traced_one.result t (a.p + 1) c.with-ahead.ensures c.traced_one.ensures) refl
    c.if-size-lt2.false c.if-size-lt3.true

pub returns : goal.returns
returns c =
    let a = c.args in
    let before = from_before a.image.now a.marks.now a.p in
    let t = traced_at a.image.now a.marks.now (a.p + 1) in
    let u = traced_at a.image.now a.marks.now (a.p + 2) in
    let h = (size_short a.image.now a.p (λ n. (c.type_inv.image n).fits)).1 in
    three_bytes a.image.now a.marks.now a.p c.if-image-gt-LIMIT.false (sym c.is_traced_at.ensures ∙ c.if-not-is_traced_at.false)
    c.size_at-size.result c.size_at-size.ensures (overlaps_in c.with-back.result) (more [] _ c.behind.result before (a.p - 1) c.with-back.ensures c.behind.ensures)
    (overlaps_in c.with-ahead.result) t (more _ _ c.traced_one.result t (a.p + 1) c.with-ahead.ensures c.traced_one.ensures) refl
    c.if-size-lt3.false (omega (arith, c.size_at-size.ensures, h))
    (overlaps_in c.with.result) u (more _ _ c.traced_one-2.result u (a.p + 2) c.with.ensures c.traced_one-2.ensures) refl
