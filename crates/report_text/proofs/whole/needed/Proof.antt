-- `whole::needed` meets its contract.
-- Assumes nothing.
use native.Mathlib.Omega.{arith}
use borrow.Author.Rules.{rules}
use Rattle.report_text.proofs.whole.needed.Statement.{statement}
use Rattle.report_text.proofs.whole.needed.Tie as tie

returns : tie.Need-returns-then-is_enough
returns c = record { enough = λ h. c.is_enough.ensures c.if-is_enough.true; exact = λ h. absurd (omega arith) }

pub needed_spec : {M : Type 1} → statement M
needed_spec =
    tie.close (tie.spec (λ c κs. search rules) returns (λ c. search rules) (λ c κs. search rules) (λ c. search rules))
