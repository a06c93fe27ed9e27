-- What is not found of `ask::first_data`: what is refused, and what is told.
-- Assumes nothing.
use native.Mathlib.Omega.{arith}
use borrow.Author.Tests.{leb-false}
use lib.Dec.{leb}
use Rattle.std.proofs.lemmas.Result.{err_from_is_err_and}
use Rattle.map.specs.Ask.{first_answer}
use Rattle.map.proofs.Asking.{refused_all, told_all, good}
use Rattle.map.proofs.ask.first_data.Goals as goal

pub returns-in_err-check : goal.returns-in_err-check
unfolding first_answer
returns-in_err-check c =
    let a = c.args in
    let p = err_from_is_err_and c.from_residual.result c.from_residual.ensures.1 in
    rw (p.1, p.2) (refused_all a.words.now a.length (leb a.length a.p) a.p _ _ c.in_err-check.ensures)

pub overflow_cast-length : goal.overflow_cast-length
overflow_cast-length c =
    let a = c.args in
    let g = good a.words.now a.length (leb a.length a.p) a.p c.in_ok-check.ensures in record { fits = omega (arith, g.fits) }

pub next_data-requires : goal.next_data-requires
next_data-requires c =
    let a = c.args in
    let g = good a.words.now a.length (leb a.length a.p) a.p c.in_ok-check.ensures in
    let h = leb-false a.length a.p g.inside in
    (omega arith, omega (arith, g.room), g.fits)

pub returns : goal.returns
unfolding first_answer
returns c =
    let a = c.args in told_all a.words.now a.length (leb a.length a.p) a.p _ c.in_ok-check.ensures _ c.next_data.ensures
