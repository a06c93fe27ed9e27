-- What is not found of `Mark::is_traced`: the two marks that say traced.
-- Assumes nothing.
use Rattle.std.proofs.Common.{arith}
use Rattle.marks.proofs.Reading.{says_traced, says_not}
use Rattle.marks.proofs.mark.Mark.is_traced.Goals as goal

pub returns-in-2 : goal.returns-in-2
returns-in-2 c = says_traced c.args.mark (λ ne. omega arith)

pub returns-in_default : goal.returns-in_default
returns-in_default c = says_not c.args.mark (λ e. omega arith) (λ e. omega arith)

pub returns-in_default-2 : goal.returns-in_default-2
returns-in_default-2 c = says_not c.args.mark (λ e. omega arith) (λ e. omega arith)
