-- `line::put_sum_refusal` meets its contract.
-- Assumes nothing.
use mathlib.Core.Path.{refl}
use native.Mathlib.Omega.{arith}
use borrow.Author.Rules.{rules}
use lib.ListN.{length-set}
use Rattle.list_text.specs.Decimal.{lowest, width}
use Rattle.list_text.specs.Refusal.{number_line}
use Rattle.report_text.proofs.line.put_sum_refusal.Statement.{statement}
use Rattle.report_text.proofs.line.put_sum_refusal.Tie as tie

returns : tie.Need-returns
unfolding number_line lowest width
returns c = (record { next = refl; wrote = refl }, omega arith)

pub put_sum_refusal_spec : {M : Type 1} → statement M
put_sum_refusal_spec =
    tie.close
    (tie.spec (λ c. search rules) (λ c. simp length-set (search rules)) (λ c. simp length-set (search rules)) (λ c. simp length-set (search rules))
    (λ c. search rules) (λ c. search rules) returns)
