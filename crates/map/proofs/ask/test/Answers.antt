-- What is not found of `ask::test`: what is refused, and what is told.
-- Assumes nothing.
use mathlib.Core.Path.{◌≡◌, refl, ap, ◌∙◌}
use mathlib.Core.Bool.{Bool, true, false}
use native.Mathlib.Omega.{arith}
use borrow.Author.Tests.{leb-false}
use lib.Dec.{leb}
use mir.Val.{bool_byte}
use Rattle.map.specs.Bits.{bit}
use Rattle.std.proofs.lemmas.Result.{err_from_is_err_and}
use Rattle.map.specs.Ask.{test_answer}
use Rattle.map.proofs.Asking.{refused_all, told_all, good}
use Rattle.map.proofs.ask.test.Goals as goal

pub returns-in_err-check : goal.returns-in_err-check
unfolding test_answer
returns-in_err-check c =
    let a = c.args in
    let p = err_from_is_err_and c.from_residual.result c.from_residual.ensures.1 in
    rw (p.1, p.2) (refused_all a.words.now a.length (leb a.length a.p) a.p _ _ c.in_err-check.ensures)

pub is_code-requires : goal.is_code-requires
is_code-requires c =
    let a = c.args in
    let g = good a.words.now a.length (leb a.length a.p) a.p c.in_ok-check.ensures in
    omega (arith, leb-false a.length a.p g.inside, g.room)

byte : (b : Bool) → bool_byte b ≡ bit b
byte true = refl
byte false = refl

pub returns : goal.returns
unfolding test_answer
returns c =
    let a = c.args in told_all a.words.now a.length (leb a.length a.p) a.p _ c.in_ok-check.ensures _ (byte c.is_code.result ∙ ap bit c.is_code.ensures)
