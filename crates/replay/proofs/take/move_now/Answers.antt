-- `take::move_now` meets its contract.
-- Assumes nothing.
use Rattle.std.proofs.Common.{◌∙◌, arith}
use Rattle.map.specs.Words.{code_at}
use Rattle.replay.proofs.Moving.{first_move, later_move}
use Rattle.replay.proofs.take.move_now.Goals as goal

pub returns-then-log-eq0 : goal.returns-then-log-eq0
returns-then-log-eq0 c =
    let a = c.args in first_move a.ground.mode a.ground.image.now a.ground.marks.now (code_at a.ground.table.now) a.log a.p c.if-log-eq0.true

pub returns : goal.returns
returns c =
    let a = c.args in
    c.move_to.ensures
    ∙ later_move a.ground.mode a.ground.image.now a.ground.marks.now (code_at a.ground.table.now) a.log a.p c.if-log-eq0.false (omega arith) c.position.result c.position.ensures
