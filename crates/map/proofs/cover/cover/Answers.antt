-- What is not found of `cover::cover`: what stands in one word is covered at once, and what reaches into the next.
-- Assumes nothing.
use Prim.Native.Nat.{◌+◌, ◌/◌, ◌<◌}
use native.Mathlib.Omega.{arith}
use lib.ListN.{length}
use Rattle.map.proofs.InOneWord.{covered_one, covered_two}
use Rattle.map.proofs.cover.cover.Goals as goal

pub returns-then-from-size-le64 : goal.returns-then-from-size-le64
returns-then-from-size-le64 c =
    let a = c.args in
    let h : a.p / 64 < length a.words.now = omega (arith, c.requires.0, c.requires.2) in
    covered_one a.size a.words.now a.p c.requires.0 c.if-from-size-le64.true h c.with_ones.result c.with_ones.ensures

pub returns : goal.returns
returns c =
    let a = c.args in
    let h : a.p / 64 + 1 < length a.words.now = omega (arith, c.requires.2, c.if-from-size-le64.false) in
    covered_two a.words.now a.p a.size c.if-from-size-le64.false c.requires.1 h c.with_ones.result c.with_ones.ensures
    c.with_ones-2.result c.with_ones-2.ensures
