-- `bytes::judge` meets its contract.
-- Assumes nothing.
use mathlib.Core.Path.{refl, sym, ◌∙◌}
use borrow.Author.Rules.{rules}
use borrow.Author.Tests.{not-true, not-false}
use Rattle.list_text.proofs.Pairs.{bad, good}
use Rattle.list_text.proofs.bytes.judge.Statement.{statement}
use Rattle.list_text.proofs.bytes.judge.Tie as tie

returns : tie.Need-returns-then-not-is_bytes
returns c =
    let b = c.before in
    bad b.args.line.now (sym b.is_bytes.ensures ∙ not-true _ c.if-not-is_bytes.true-raw)

returns-2 : tie.Need-returns
returns-2 c =
    let b = c.before in
    good b.args.line.now (sym b.is_bytes.ensures ∙ not-false _ c.if-not-is_bytes.false-raw) _ refl

pub judge_spec : {M : Type 1} → statement M
judge_spec = tie.close (tie.spec (λ c κs. search rules) returns returns-2)
