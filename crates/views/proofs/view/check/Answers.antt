-- What is not found of `view::check`: which refusal speaks.
-- Assumes nothing.
use mathlib.Core.Path.{sym, ◌∙◌}
use Rattle.std.proofs.lemmas.Result.{err_from_is_err_and}
use Rattle.views.proofs.Refusing.{sizes, left_from_lem, left_next, damaged_mark, sound}
use Rattle.views.proofs.view.check.Goals as goal

pub returns-in_err-check_sizes : goal.returns-in_err-check_sizes
returns-in_err-check_sizes c =
    let p = err_from_is_err_and c.from_residual.result c.from_residual.ensures.1 in
    rw (p.1, p.2) (sizes c.args.image.now c.args.marks.now _ c.in_err-check_sizes.ensures.answer)

pub loop-p-init : goal.loop-p-init
loop-p-init c =
    let s = c.sound_to-p.ensures in left_from_lem c.args.image.now c.args.marks.now c.sound_to-p.result s.0 s.1

pub returns-then-is_damaged : goal.returns-then-is_damaged
returns-then-is_damaged c =
    let r = c.in_ok-check_sizes.ensures.right in
    damaged_mark c.args.image.now c.args.marks.now r.0 r.1 c.loop-p.p c.loop-p-test.true (sym c.is_damaged.ensures ∙ c.if-is_damaged.true) c.loop-p.invariant

pub loop-p-preserved : goal.loop-p-preserved
loop-p-preserved c =
    left_next c.args.image.now c.args.marks.now c.loop-p.p c.loop-p-test.true (sym c.is_damaged.ensures ∙ c.if-is_damaged.false) c.loop-p.invariant

pub returns : goal.returns
returns c =
    let r = c.in_ok-check_sizes.ensures.right in
    sound c.args.image.now c.args.marks.now r.0 r.1 c.loop-p.p c.loop-p-test.false c.loop-p.invariant
