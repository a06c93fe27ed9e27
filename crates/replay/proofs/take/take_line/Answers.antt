-- `take::take_line` meets its contract.
-- Assumes nothing.
use Rattle.std.proofs.Common.{◌∙◌, sym, ap, refl}
use Rattle.map.specs.Words.{code_at}
use Rattle.replay.proofs.Taking.{malformed, untraced, not_allowed, full, counted}
use Rattle.replay.specs.Log.{going}
use Rattle.replay.specs.Moves.{is_forbidden}
use Rattle.replay.specs.Take.{state, taken_at}
use Rattle.replay.specs.declared.log.Log.{Log}
use Rattle.replay.proofs.take.take_line.Goals as goal

pub returns-then-p-eq-NOWHERE-clause-after : goal.returns-then-p-eq-NOWHERE-clause-after
returns-then-p-eq-NOWHERE-clause-after c =
    let a = c.args in
    malformed a.ground.mode a.ground.image.now a.ground.marks.now (code_at a.ground.table.now) a.log a.counts.now c.position_of-p.result _ refl c.if-p-eq-NOWHERE.true
    ∙ ap (taken_at a.ground.mode a.ground.image.now a.ground.marks.now (code_at a.ground.table.now) (state a.log a.counts.now)) c.position_of-p.ensures

pub returns-then-not-is_traced_at-clause-after : goal.returns-then-not-is_traced_at-clause-after
returns-then-not-is_traced_at-clause-after c =
    let a = c.args in
    untraced a.ground.mode a.ground.image.now a.ground.marks.now (code_at a.ground.table.now) a.log a.counts.now c.position_of-p.result c.if-p-eq-NOWHERE.false _ refl
    (sym c.is_traced_at.ensures ∙ c.if-not-is_traced_at.true)
    ∙ ap (taken_at a.ground.mode a.ground.image.now a.ground.marks.now (code_at a.ground.table.now) (state a.log a.counts.now)) c.position_of-p.ensures

pub returns-in_default-clause-after : goal.returns-in_default-clause-after
returns-in_default-clause-after c =
    let a = c.args in
    not_allowed a.ground.mode a.ground.image.now a.ground.marks.now (code_at a.ground.table.now) a.log a.counts.now c.position_of-p.result c.if-p-eq-NOWHERE.false
    (sym c.is_traced_at.ensures ∙ c.if-not-is_traced_at.false) _ refl
    (ap is_forbidden (sym c.move_now.ensures ∙ c.in_default.is))
    ∙ ap (taken_at a.ground.mode a.ground.image.now a.ground.marks.now (code_at a.ground.table.now) (state a.log a.counts.now)) c.position_of-p.ensures

pub returns-then-count-clause-after : goal.returns-then-count-clause-after
returns-then-count-clause-after c =
    let a = c.args in
    full a.ground.mode a.ground.image.now a.ground.marks.now (code_at a.ground.table.now) a.log a.counts.now c.position_of-p.result c.if-p-eq-NOWHERE.false
    (sym c.is_traced_at.ensures ∙ c.if-not-is_traced_at.false) (ap is_forbidden (sym c.move_now.ensures ∙ c.in-Some.is)) _ refl c.if-count.true
    ∙ ap (taken_at a.ground.mode a.ground.image.now a.ground.marks.now (code_at a.ground.table.now) (state a.log a.counts.now)) c.position_of-p.ensures

pub returns-clause-after : goal.returns-clause-after
returns-clause-after c =
    let a = c.args in
    counted a.ground.mode a.ground.image.now a.ground.marks.now (code_at a.ground.table.now) a.log a.counts.now c.position_of-p.result c.if-p-eq-NOWHERE.false
    (sym c.is_traced_at.ensures ∙ c.if-not-is_traced_at.false) (ap is_forbidden (sym c.move_now.ensures ∙ c.in-Some.is)) _
    (c.go_on.ensures ∙ ap (going a.log c.position_of-p.result) (sym c.in-Some.is ∙ c.move_now.ensures)) c.if-count.false
    ∙ ap (taken_at a.ground.mode a.ground.image.now a.ground.marks.now (code_at a.ground.table.now) (state a.log a.counts.now)) c.position_of-p.ensures

pub returns-clause-goes_on : goal.returns-clause-goes_on
unfolding going
returns-clause-goes_on c = ap (λ (l : Log). l.refusal) c.go_on.ensures
