-- `count::size_of` meets its contract.
-- Assumes nothing.
use mathlib.Core.Path.{sym, ◌∙◌}
use borrow.Author.Rules.{rules}
use borrow.Author.Tests.{not-true, not-false}
use Rattle.report_text.proofs.Covering.{untraced_size, traced_size}
use Rattle.report_text.proofs.count.size_of.Statement.{statement}
use Rattle.report_text.proofs.count.size_of.Tie as tie

abbrev start : tie.After-is_traced → tie.Start
start c = c.before.before.before.before

returns : tie.Need-returns-then-not-is_traced
returns c =
    let t = c.before in
    let a = (start t).args in
    untraced_size a.image.now a.marks.now a.p (sym t.is_traced.ensures ∙ not-true _ c.if-not-is_traced.true-raw)

returns-2 : tie.Need-returns
returns-2 c =
    let e = c.before in
    let t = e.before in
    let a = (start t).args in
    c.size_at.ensures ∙ traced_size a.image.now a.marks.now a.p (sym t.is_traced.ensures ∙ not-false _ e.if-not-is_traced.false-raw)

pub size_of_spec : {M : Type 1} → statement M
size_of_spec =
    tie.close
    (tie.spec (λ c. search rules) (λ c κs. search rules) returns (λ c. search rules) (λ c κs. search rules) (λ c. search rules) returns-2)
