-- What is not found of `tell::ones_in`: the sum of the parts.
-- Assumes nothing.
use mathlib.Core.Path.{◌∙◌}
use Prim.Native.Nat.{◌+◌, ◌*◌, ◌/◌, ◌%◌, ◌-◌}
use native.Mathlib.Omega.{arith}
use lib.ListN.{get_or}
use Rattle.map.proofs.Telling.{same_word, between_le, body_le, in_parts}
use Rattle.map.proofs.tell.ones_in.Goals as goal

pub returns-then-first-last : goal.returns-then-first-last
returns-then-first-last c =
    let a = c.args in c.ones_at.ensures ∙ same_word a.words.now a.from a.to c.requires.0 c.if-first-last.true

pub overflow_add-result : goal.overflow_add-result
overflow_add-result c =
    let a = c.args in
    let h = between_le (get_or a.words.now (a.from / 64) 0) (a.from % 64) 64 in
    let b = body_le a.words.now (64 * (a.to / 64 - (a.from / 64 + 1))) (64 * (a.from / 64 + 1)) in
    record { fits = omega (arith, c.ones_at-head.ensures, c.whole-body.ensures, c.requires.2, h, b) }

pub overflow_add-result-2 : goal.overflow_add-result-2
overflow_add-result-2 c =
    let a = c.args in
    let h = between_le (get_or a.words.now (a.from / 64) 0) (a.from % 64) 64 in
    let b = body_le a.words.now (64 * (a.to / 64 - (a.from / 64 + 1))) (64 * (a.from / 64 + 1)) in
    let t = between_le (get_or a.words.now (a.to / 64) 0) 0 (a.to % 64) in
    record { fits = omega (arith, c.ones_at-head.ensures, c.whole-body.ensures, c.ones_at-2.ensures, c.requires.2, h, b, t) }

pub returns : goal.returns
returns c =
    let a = c.args in
    in_parts a.words.now a.from a.to c.requires.0 c.ones_at-head.result c.whole-body.result c.ones_at-2.result
    c.if-first-last.false c.ones_at-head.ensures c.whole-body.ensures c.ones_at-2.ensures
