-- `term::check` meets its contract.
-- Assumes nothing.
use mathlib.Core.Path.{◌≡◌, sym, ◌∙◌}
use borrow.Author.Tests.{lt-ltb, le-ltb}
use Rattle.instruction.proofs.Judging.{pass, stop, done}
use Rattle.report_text.proofs.term.check.Statement.{statement}
use Rattle.report_text.proofs.term.check.Tie as tie

returns : tie.Need-returns-then-room-lt-MOST
returns c = sym (stop _ _ _ (lt-ltb _ _ c.if-room-lt-MOST.true))

returns-2 : tie.Need-returns-then-out-lt-MOST_PRINTED
returns-2 c = sym (pass _ _ _ (le-ltb _ _ c.if-room-lt-MOST.false) ∙ stop _ _ _ (lt-ltb _ _ c.if-out-lt-MOST_PRINTED.true))

returns-3 : tie.Need-returns
returns-3 c = sym (pass _ _ _ (le-ltb _ _ c.if-room-lt-MOST.false) ∙ pass _ _ _ (le-ltb _ _ c.if-out-lt-MOST_PRINTED.false) ∙ done _)

pub check_spec : {M : Type 1} → statement M
check_spec = tie.close (tie.spec returns returns-2 returns-3)
