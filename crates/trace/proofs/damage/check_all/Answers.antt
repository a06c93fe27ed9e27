-- What is not found of `damage::check_all`: two positions, one after the other, or none.
-- Assumes nothing.
use Rattle.std.proofs.Common.{◌∷◌, [], ◌∙◌}
use Rattle.std.proofs.lemmas.Result.{err_from_is_err_and}
use Rattle.trace.proofs.Damages.{refused_first, sound_then, sound_end}
use Rattle.trace.proofs.damage.check_all.Goals as goal

pub returns-in_err-check_one-in-Both : goal.returns-in_err-check_one-in-Both
returns-in_err-check_one-in-Both c =
    let a = c.args in
    let b = c.in-Both in
    let p = err_from_is_err_and c.from_residual.result c.from_residual.ensures.1 in
    rw (p.1, p.2, b.is) (refused_first a.n a.marks.now b.s (b.t ∷ []) _ c.in_err-check_one-in-Both.ensures)

pub returns-in-Nothing : goal.returns-in-Nothing
returns-in-Nothing c = rw c.in-Nothing.is (sound_end c.args.n c.args.marks.now)

pub returns-in_ok-check_one-in-Both : goal.returns-in_ok-check_one-in-Both
returns-in_ok-check_one-in-Both c =
    let a = c.args in
    let b = c.in-Both in
    rw b.is (c.check_one-in-Both-2.ensures ∙ sound_then a.n a.marks.now b.s (b.t ∷ []) c.in_ok-check_one-in-Both.ensures)
