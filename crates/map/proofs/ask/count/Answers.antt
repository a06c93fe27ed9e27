-- What is not found of `ask::count`: what is refused, and what is told.
-- Assumes nothing.
use mathlib.Core.Bool.{◌||◌}
use native.Mathlib.Omega.{arith}
use borrow.Author.Tests.{ltb-false}
use lib.Dec.{ltb}
use Rattle.instruction.proofs.Neither.{neither}
use Rattle.std.proofs.lemmas.Result.{err_from_is_err_and}
use Rattle.map.specs.Ask.{count_answer}
use Rattle.map.proofs.Asking.{refused_all, told_all, good}
use Rattle.map.proofs.ask.count.Goals as goal

pub returns-in_err-check : goal.returns-in_err-check
unfolding count_answer
returns-in_err-check c =
    let a = c.args in
    let p = err_from_is_err_and c.from_residual.result c.from_residual.ensures.1 in
    rw (p.1, p.2) (refused_all a.words.now a.length (ltb a.end a.begin || ltb a.length a.end) a.begin _ _ c.in_err-check.ensures)

pub ones_in-requires : goal.ones_in-requires
ones_in-requires c =
    let a = c.args in
    let g = good a.words.now a.length (ltb a.end a.begin || ltb a.length a.end) a.begin c.in_ok-check.ensures in
    let t = neither (ltb a.end a.begin) (ltb a.length a.end) g.inside in
    let h = ltb-false a.length a.end t.1 in
    (ltb-false a.end a.begin t.0, omega (arith, g.room), omega (arith, g.fits))

pub returns : goal.returns
unfolding count_answer
returns c =
    let a = c.args in told_all a.words.now a.length (ltb a.end a.begin || ltb a.length a.end) a.begin _ c.in_ok-check.ensures _ c.ones_in.ensures
