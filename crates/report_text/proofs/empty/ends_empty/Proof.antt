-- `empty::ends_empty` meets its contract.
-- Assumes nothing.
use borrow.Author.Tests.{ne_eqb}
use Rattle.report_text.proofs.empty.ends_empty.Statement.{statement}
use Rattle.report_text.proofs.empty.ends_empty.Tie as tie

returns : tie.Need-returns-then-before-eq-LINE_END
returns c = rw c.if-before-eq-LINE_END.true

returns-2 : tie.Need-returns-else-before-eq-LINE_END
returns-2 c = rw (ne_eqb c.args.before 10 c.if-before-eq-LINE_END.false)

pub ends_empty_spec : {M : Type 1} → statement M
ends_empty_spec = tie.close (tie.spec returns returns-2)
