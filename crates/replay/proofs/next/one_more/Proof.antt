-- `next::one_more` meets its contract.
-- Assumes nothing.
use borrow.Author.Rules.{rules}
use Rattle.replay.proofs.Logs.{more_top, more_next}
use Rattle.replay.proofs.next.one_more.Statement.{statement}
use Rattle.replay.proofs.next.one_more.Tie as tie

returns : tie.Need-returns-then-n-ge-HIGHEST
returns c = more_top c.args.n c.if-n-ge-HIGHEST.true

returns-2 : tie.Need-returns
returns-2 c = more_next c.args.n c.if-n-ge-HIGHEST.false

pub one_more_spec : {M : Type 1} → statement M
one_more_spec = tie.close (tie.spec returns (λ c. search rules) returns-2)
