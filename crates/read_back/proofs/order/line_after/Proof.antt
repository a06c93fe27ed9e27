-- `order::line_after` meets its contract.
-- Assumes nothing.
use native.Mathlib.Numerals.{add-one}
use borrow.Author.Rules.{rules}
use borrow.Author.Tests.{lt-ltb, le-ltb}
use Rattle.read_back.specs.Order.{line_after}
use Rattle.read_back.proofs.order.line_after.Statement.{statement}
use Rattle.read_back.proofs.order.line_after.Tie as tie

returns : tie.Need-returns-then-line-lt18446744073709551615
unfolding line_after
returns c = rw (lt-ltb _ _ c.if-line-lt18446744073709551615.true, add-one)

returns-2 : tie.Need-returns
unfolding line_after
returns-2 c = rw (le-ltb _ _ c.if-line-lt18446744073709551615.false)

pub line_after_spec : {M : Type 1} → statement M
line_after_spec = tie.close (tie.spec (λ c. search rules) returns returns-2)
