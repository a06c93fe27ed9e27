-- `image::second_line` meets its contract.
-- Assumes nothing.
use borrow.Author.Rules.{rules}
use Rattle.report_text.proofs.Starts.{second_inside, second_none}
use Rattle.report_text.proofs.image.second_line.Statement.{statement}
use Rattle.report_text.proofs.image.second_line.Tie as tie

returns : tie.Need-returns-then-end-text
returns c = let s = c.before in second_inside s.args.text.now s.args.end s.requires c.if-end-text.true

returns-2 : tie.Need-returns
returns-2 c = let s = c.before in second_none s.args.text.now s.args.end s.requires c.if-end-text.false

pub second_line_spec : {M : Type 1} → statement M
second_line_spec = tie.close (tie.spec (λ c. search rules) returns returns-2)
