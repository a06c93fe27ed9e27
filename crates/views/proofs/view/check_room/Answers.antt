-- What is not found of `view::check_room`: which refusal speaks.
-- Assumes nothing.
use mathlib.Core.Path.{sym, ◌∙◌}
use Rattle.std.proofs.lemmas.Result.{err_from_is_err_and}
use borrow.Author.Tests.{lt-ltb, le-ltb}
use Rattle.instruction.proofs.Judging.{pass, stop, done, past_all}
use Rattle.views.specs.View.{view_refusals}
use Rattle.views.proofs.Viewing.{refused_first}
use Rattle.views.proofs.view.check_room.Goals as goal

pub returns-in_err-check : goal.returns-in_err-check
returns-in_err-check c =
    let p = err_from_is_err_and c.from_residual.result c.from_residual.ensures.1 in
    rw (p.1, p.2) (refused_first (view_refusals c.args.image.now c.args.marks.now) _ tt _ c.in_err-check.ensures)

pub returns-then-room-need : goal.returns-then-room-need
returns-then-room-need c =
    sym (past_all _ tt tt (view_refusals c.args.image.now c.args.marks.now) (sym c.in_ok-check.ensures)
    ∙ stop _ _ _ (lt-ltb c.args.room c.args.need c.if-room-need.true))

pub returns : goal.returns
returns c =
    sym (past_all _ tt tt (view_refusals c.args.image.now c.args.marks.now) (sym c.in_ok-check.ensures)
    ∙ pass _ _ _ (le-ltb c.args.room c.args.need c.if-room-need.false) ∙ done tt)
