-- `term::Term::new` meets its contract.
-- Assumes nothing.
use mathlib.Core.Path.{◌≡◌, ap}
use borrow.Author.Rules.{rules}
use mathlib.Core.Bool.{true, false}
use Rattle.report_text.specs.declared.sums.Sums.{Sums}
use Rattle.report_text.specs.declared.term.Term.{Term}
use Rattle.report_text.proofs.term.Term.new.Statement.{statement}
use Rattle.report_text.proofs.term.Term.new.Tie as tie

with_sums : Sums → Term
with_sums s = record { sums = s; held = 0; fresh = true; over = false }

returns : tie.Need-returns
unfolding with_sums
returns c = ap with_sums c.new.ensures

pub new_spec : {M : Type 1} → statement M
new_spec = tie.close (tie.spec (λ c κs. search rules) returns)
