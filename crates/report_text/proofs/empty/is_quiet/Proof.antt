-- `empty::is_quiet` meets its contract.
-- Assumes nothing.
use mathlib.Core.Logic.{inl, inr, ⊎_elim}
use mathlib.Core.Path.{sym, ◌∙◌}
use borrow.Author.Rules.{rules}
use borrow.Author.Tests.{eqb-true}
use Rattle.instruction.proofs.Sign.{never}
use Rattle.report_text.proofs.EmptyLines.{quiet_none}
use Rattle.report_text.proofs.Gathers.{not_both}
use Rattle.report_text.proofs.empty.is_quiet.Statement.{statement}
use Rattle.report_text.proofs.empty.is_quiet.Tie as tie

returns : tie.Need-returns-then-part-eq-LINE_END
returns c = λ e. absurd (never (sym e))

returns-2 : tie.Need-returns
returns-2 c = λ e.
    let j = c.before in
    let s = j.before.before in
    let n = not_both s.args.fresh _ (⊎_elim (λ x. inr x.if-part-eq-LINE_END.false-raw) (λ x. inl x.if-fresh.false) j.else-fresh.branch-raw) in
    quiet_none s.args.fresh s.args.part.now s.requires.0 n (sym c.in_part.ensures ∙ eqb-true c.in_part.result 0 e)

pub is_quiet_spec : {M : Type 1} → statement M
is_quiet_spec = tie.close (tie.spec (λ c. search rules) returns (λ c κs. search rules) returns-2)
