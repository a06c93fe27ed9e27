-- What is not found of `tell::whole`: one word more, and all.
-- Assumes nothing.
use mathlib.Core.Path.{◌≡◌, sym, subst, ◌∙◌}
use Prim.Native.Nat.{ℕ, ◌+◌, ◌-◌, ◌<◌}
use native.Mathlib.Omega.{arith}
use lib.Count.{ones}
use lib.ListN.{get_or, take, drop, length-drop}
use lib.Seq.{get_or-take, length-take-le}
use Rattle.std.proofs.lemmas.List.{get_or-drop}
use Rattle.map.proofs.Telling.{Left, left_next, left_end}
use Rattle.map.proofs.tell.whole.Goals as goal

pub loop-w-preserved : goal.loop-w-preserved
loop-w-preserved c =
    let a = c.args in
    let l = c.loop-w in
    let n : ℕ = a.last - a.first in
    let s = length-take-le n (drop a.first a.words.now) (omega (arith, length-drop a.first a.words.now, c.requires.1)) in
    let h : l.w-index < n = omega (arith, s, c.loop-w-test.true) in
    let e : get_or (take n (drop a.first a.words.now)) l.w-index 0 ≡ get_or a.words.now (a.first + l.w-index) 0 =
    get_or-take n (drop a.first a.words.now) l.w-index 0 h ∙ get_or-drop a.first a.words.now l.w-index 0 in
    let g : (a.first + l.w-index) + 1 ≡ a.first + (l.w-index + 1) = omega arith in
    subst (Left a.words.now a.first a.last (l.n + ones (get_or (take n (drop a.first a.words.now)) l.w-index 0))) g
    (subst (λ (w : ℕ). Left a.words.now a.first a.last (l.n + ones w) ((a.first + l.w-index) + 1)) (sym e)
    (left_next a.words.now a.first a.last l.n (a.first + l.w-index) (omega arith) (c.type_inv.words (a.first + l.w-index)).fits l.invariant))

pub returns : goal.returns
returns c =
    let a = c.args in
    let l = c.loop-w in
    let s = length-take-le (a.last - a.first) (drop a.first a.words.now) (omega (arith, length-drop a.first a.words.now, c.requires.1)) in
    left_end a.words.now a.first a.last l.n (a.first + l.w-index) (omega (arith, s, c.loop-w-test.false, l.invariant.from)) l.invariant
