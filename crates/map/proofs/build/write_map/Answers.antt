-- What is not found of `build::write_map`: the words at first, one position more, and all.
-- Assumes nothing.
use mathlib.Core.Path.{◌≡◌, ap, ◌∙◌}
use mathlib.Core.List.{List, ◌++◌}
use Prim.Native.Nat.{ℕ, ◌≤◌}
use native.Mathlib.Omega.{arith}
use lib.ListN.{length, replicate, drop}
use lib.Seq.{length-take-le}
use Rattle.map.proofs.Marking.{Marked, begun, marked_next, marked_all}
use Rattle.map.proofs.Sounding.{fitting, fits_within}
use Rattle.map.proofs.build.write_map.Goals as goal

pub loop-p-init : goal.loop-p-init
loop-p-init c =
    let a = c.args in
    let rest = drop a.need a.words.now in
    let h : a.need ≤ length a.words.now = c.requires.3 in
    let e = c.fill.ensures.after (λ y h. h) ∙ ap (λ (n : ℕ). replicate n 0) (length-take-le a.need a.words.now h) in
    let b = begun a.image.now a.marks.now a.need _ a.words.now c.requires.2 (ap (λ (l : List ℕ). l ++ rest) e) in
    b.0 ∙ ap (λ (l : List ℕ). Marked a.image.now a.marks.now 0 ++ l) b.1

pub loop-p-preserved : goal.loop-p-preserved
loop-p-preserved c =
    let a = c.args in
    let p = c.loop-p.p in
    let h = c.loop-p-test.true in
    c.cover_at.ensures
    ∙ marked_next a.image.now a.marks.now p h (λ t. fits_within a.image.now p (fitting a.image.now a.marks.now p (c.requires.4 p h) t))
    c.loop-p.words (drop a.need a.words.now) c.loop-p.invariant

pub returns : goal.returns
returns c =
    let a = c.args in
    let e : c.loop-p.p ≡ length a.image.now = omega arith in
    c.loop-p.invariant
    ∙ ap (λ (l : List ℕ). l ++ drop a.need a.words.now) (ap (Marked a.image.now a.marks.now) e ∙ marked_all a.image.now a.marks.now)
