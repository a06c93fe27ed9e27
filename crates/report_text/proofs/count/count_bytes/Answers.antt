-- One position more, and the last.
-- Assumes nothing.
use Rattle.std.proofs.Common.{ℕ, ◌+◌, ◌<◌, ◌≤◌, Bool, ltb, length, arith}
use mir.Syntax.{w64}
use mir.Val.{bool_byte, Fits}
use Rattle.report_text.proofs.Counts.{at_most_one}
use Rattle.report_text.proofs.Covering.{counted_start, counted_next, counted_end, most}
use Rattle.report_text.proofs.count.count_bytes.Goals as goal

-- each sum is at most one more than the positions so far
one_more : (n p len : ℕ) (t : Bool) → n ≤ p → p < len → len ≤ 65536 → Fits w64 (n + bool_byte t)
one_more n p len t h k m = let b = at_most_one t in record { fits = omega arith }

pub loop-p-init : goal.loop-p-init
loop-p-init c = counted_start c.args.image.now c.args.marks.now

pub overflow_add-under : goal.overflow_add-under
overflow_add-under c =
    let a = c.args in
    let b = most a.image.now a.marks.now c.loop-p.invariant in
    one_more _ c.loop-p.p (length a.image.now) _ b.2 c.loop-p-test.true c.requires.1

pub overflow_add-code : goal.overflow_add-code
overflow_add-code c =
    let a = c.args in
    let b = most a.image.now a.marks.now c.loop-p.invariant in
    one_more _ c.loop-p.p (length a.image.now) _ b.0 c.loop-p-test.true c.requires.1

pub overflow_add-shared : goal.overflow_add-shared
overflow_add-shared c =
    let a = c.args in
    let b = most a.image.now a.marks.now c.loop-p.invariant in
    one_more _ c.loop-p.p (length a.image.now) _ b.1 c.loop-p-test.true c.requires.1

pub overflow_add-here : goal.overflow_add-here
overflow_add-here c =
    let a = c.args in
    let b = most a.image.now a.marks.now c.loop-p.invariant in
    one_more _ c.loop-p.p (length a.image.now) _ b.3 c.loop-p-test.true c.requires.1

pub loop-p-preserved : goal.loop-p-preserved
loop-p-preserved c =
    let a = c.args in
    counted_next a.image.now a.marks.now c.loop-p.invariant (λ k. (c.type_inv.image k).fits) c.loop-p-test.true c.size_of-size.result c.size_of-size.ensures

pub returns-clause-code_value : goal.returns-clause-code_value
returns-clause-code_value c = (counted_end c.args.image.now c.args.marks.now c.loop-p.invariant c.loop-p-test.false).0

pub returns-clause-shared_value : goal.returns-clause-shared_value
returns-clause-shared_value c = (counted_end c.args.image.now c.args.marks.now c.loop-p.invariant c.loop-p-test.false).1
