-- `sums::add_figures` meets its contract.
-- Assumes nothing.
use native.Mathlib.Omega.{arith}
use borrow.Author.Rules.{rules}
use Rattle.instruction.specs.Answer.{accepted}
use Rattle.report_text.specs.Sums.{adding}
use Rattle.report_text.specs.declared.sums.Sums.{Sums}
use Rattle.report_text.proofs.Adding.{sum_held}
use Rattle.report_text.proofs.sums.add_figures.Statement.{statement}
use Rattle.report_text.proofs.sums.add_figures.Tie as tie

abbrev sums : tie.Start → Sums
sums s = adding s.args.s (accepted s.args.f)

abbrev start : tie.After-struct_known-6-1 → tie.Start
start c = c.before.before.before.before.before.before

add-t3 : tie.Need-overflow_add-result
add-t3 c = let s = c.before.before in sum_held (sums s) 0 (omega arith) s.requires

add-t4 : tie.Need-overflow_add-result-2
add-t4 c = let s = c.before.before.before.before in sum_held (sums s) 1 (omega arith) s.requires

add-t5 : tie.Need-overflow_add-result-3
add-t5 c = let s = start c in sum_held (sums s) 2 (omega arith) s.requires

add-t6 : tie.Need-overflow_add-result-4
add-t6 c = let s = start c.before.before in sum_held (sums s) 3 (omega arith) s.requires

add-t7 : tie.Need-overflow_add-result-5
add-t7 c = let s = start c.before.before.before.before in sum_held (sums s) 4 (omega arith) s.requires

add-t8 : tie.Need-overflow_add-result-6
add-t8 c = let s = start c.before.before.before.before.before.before in sum_held (sums s) 5 (omega arith) s.requires

add-t9 : tie.Need-overflow_add-result-7
add-t9 c = let s = start c.before.before.before.before.before.before.before in sum_held (sums s) 6 (omega arith) s.requires

pub add_figures_spec : {M : Type 1} → statement M
add_figures_spec = tie.close (tie.spec add-t3 add-t4 add-t5 add-t6 add-t7 add-t8 add-t9 (λ c. search rules))
