-- One part more, and the last.
-- Assumes nothing.
use Rattle.std.proofs.Common.{◌+◌, ◌≤◌, List, ℕ, length, drop, arith, subst, ◌∙◌, length-drop}
use Rattle.targets.proofs.HereIs.{to_end}
use Rattle.report_text.specs.Going.{Going}
use Rattle.report_text.proofs.Gathers.{gone_on, ended_on, gone_whole, ends, whole}
use Rattle.report_text.proofs.gather.gather.Goals as goal

pub returns-then-g : goal.returns-then-g
returns-then-g c =
    let a = c.args in
    let l = c.loop-at in
    let g = c.gather_part-g in
    let m = subst (λ (x : List ℕ). Going l.held l.fresh x c.min-m.result l.room g.new.room g.result) (to_end a.text.now l.at) g.ensures in
    ends a.term a.text.now a.room.now c.requires.1 _ _ _ _ (ended_on (l.invariant.2 a.term.sums) (m.ended c.if-g.true a.term.sums))

pub loop-at-preserved : goal.loop-at-preserved
loop-at-preserved c =
    let a = c.args in
    let l = c.loop-at in
    let g = c.gather_part-g in
    let m = subst (λ (x : List ℕ). Going l.held l.fresh x c.min-m.result l.room g.new.room g.result) (to_end a.text.now l.at) g.ensures in
    (omega (arith, m.inside, length-drop l.at a.text.now, l.invariant.0), g.auto.room ∙ l.invariant.1, λ s. gone_on (l.invariant.2 s) ((m.whole c.if-g.false).1 s))

pub returns : goal.returns
returns c =
    let a = c.args in
    let l = c.loop-at in
    let g = gone_whole (l.invariant.2 a.term.sums) c.loop-at-test.false in
    whole a.term a.text.now a.room.now c.requires.1 l.held l.fresh l.room l.at g
