-- What is not found of `damage::check`: the mark of p - 2, the exception, or the targets decide.
-- Assumes nothing.
use Rattle.std.proofs.Common.{sym, ap, ◌∙◌}
use Rattle.reach.specs.Mark.{traced_mark}
use Rattle.marks.specs.Refusals.{damaged}
use mathlib.Core.Logic.{inl, inr}
use borrow.Author.Tests.{lt-ltb, le-ltb}
use Rattle.targets.specs.Ways.{places_in}
use Rattle.trace.proofs.Damages.{before_damaged, exempted, by_ways}
use Rattle.marks.proofs.Jmpf.{two_before}
use Rattle.trace.proofs.damage.check.Goals as goal
use Rattle.trace.proofs.damage.check.Goals.{then-is_flash+else-before-gt-HIGHEST+else-is_traced, else-is_flash}

pub overflow_sub-p : goal.overflow_sub-p
overflow_sub-p c = two_before c.args.image.now c.args.p (sym c.is_flash.ensures ∙ c.if-is_flash.true)

pub overflow_sub-result : goal.overflow_sub-result
overflow_sub-result c = two_before c.args.image.now c.args.p (sym c.is_flash.ensures ∙ c.if-is_flash.true)

pub returns-then-before-gt-HIGHEST : goal.returns-then-before-gt-HIGHEST
returns-then-before-gt-HIGHEST c =
    let a = c.args in
    before_damaged a.image.now a.marks.now (places_in a.to) a.p (sym c.is_flash.ensures ∙ c.if-is_flash.true)
    (ap damaged (sym c.at-before.ensures) ∙ lt-ltb 4 _ c.if-before-gt-HIGHEST.true)

pub returns-then-is_traced : goal.returns-then-is_traced
returns-then-is_traced c =
    let a = c.args in
    exempted a.image.now a.marks.now (places_in a.to) a.p (sym c.is_flash.ensures ∙ c.if-is_flash.true)
    (ap damaged (sym c.at-before.ensures) ∙ le-ltb 4 _ c.if-before-gt-HIGHEST.false)
    (ap traced_mark (sym c.at-before.ensures) ∙ sym c.is_traced.ensures ∙ c.if-is_traced.true)

pub returns : goal.returns
returns c =
    let a = c.args in
    let e = c.is_flash.ensures in
    c.check_all.ensures ∙ by_ways a.image.now a.marks.now (places_in a.to) a.p
    (elim c.if-is_flash.branch [
      | then-is_flash+else-before-gt-HIGHEST+else-is_traced w ↦ inr (
        sym e ∙ w.if-is_flash.true,
        ap damaged (sym w.at-before.ensures) ∙ le-ltb 4 _ w.if-before-gt-HIGHEST.false,
        ap traced_mark (sym w.at-before.ensures) ∙ sym w.is_traced.ensures ∙ w.if-is_traced.false,
      )
      | else-is_flash w ↦ inl (sym e ∙ w.if-is_flash.false)
    ])
