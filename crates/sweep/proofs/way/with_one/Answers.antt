-- What is not found of `way::with_one`: what is covered besides.
-- Assumes nothing.
use Rattle.std.proofs.Common.{refl, arith}
use Rattle.sweep.proofs.Covering.{behind, ahead}
use Rattle.sweep.proofs.way.with_one.Goals as goal

pub returns-then-t-at : goal.returns-then-t-at
returns-then-t-at c =
    let a = c.args in
    let m = c.min.ensures in
    behind a.way a.at a.t c.if-t-at.true c.min.result (omega arith) (omega arith) _ refl

pub returns : goal.returns
returns c =
    let a = c.args in
    let m = c.max.ensures in
    ahead a.way a.at a.t c.if-t-at.false c.max.result (omega arith) (omega arith) (λ n e t. omega (arith, m, e, t)) _ refl
