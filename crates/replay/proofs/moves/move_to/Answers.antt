-- `moves::move_to` meets its contract.
-- Assumes nothing.
use Rattle.std.proofs.Common.{◌∙◌, true, false, refl, sym}
use Rattle.map.specs.Words.{code_at}
use Rattle.replay.proofs.Moving.{moved_by}
use Rattle.replay.proofs.moves.move_to.Goals as goal

pub returns-then-is_target : goal.returns-then-is_target
returns-then-is_target c =
    let a = c.args in
    moved_by a.ground.mode a.ground.image.now a.ground.marks.now (code_at a.ground.table.now) a.q a.p true _ _ (sym c.is_target.ensures ∙ c.if-is_target.true) refl refl

pub returns-then-is_entry : goal.returns-then-is_entry
returns-then-is_entry c =
    let a = c.args in
    moved_by a.ground.mode a.ground.image.now a.ground.marks.now (code_at a.ground.table.now) a.q a.p false true _ (sym c.is_target.ensures ∙ c.if-is_target.false)
    (sym c.is_entry.ensures ∙ c.if-is_entry.true) refl

pub returns-then-is_free_after : goal.returns-then-is_free_after
returns-then-is_free_after c =
    let a = c.args in
    moved_by a.ground.mode a.ground.image.now a.ground.marks.now (code_at a.ground.table.now) a.q a.p false false true (sym c.is_target.ensures ∙ c.if-is_target.false)
    (sym c.is_entry.ensures ∙ c.if-is_entry.false) (sym c.is_free_after.ensures ∙ c.if-is_free_after.true)

pub returns : goal.returns
returns c =
    let a = c.args in
    moved_by a.ground.mode a.ground.image.now a.ground.marks.now (code_at a.ground.table.now) a.q a.p false false false (sym c.is_target.ensures ∙ c.if-is_target.false)
    (sym c.is_entry.ensures ∙ c.if-is_entry.false) (sym c.is_free_after.ensures ∙ c.if-is_free_after.false)
