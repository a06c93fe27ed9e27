-- `order::rank` meets its contract.
-- Assumes nothing.
use Rattle.read_back.proofs.Letters.{no_rank}
use Rattle.read_back.proofs.order.rank.Statement.{statement}
use Rattle.read_back.proofs.order.rank.Tie as tie

returns : tie.Need-returns-in-76
returns c = rw c.in-76.is

returns-2 : tie.Need-returns-in-79
returns-2 c = rw c.in-79.is

returns-3 : tie.Need-returns-in-65
returns-3 c = rw c.in-65.is

returns-4 : tie.Need-returns-in-73
returns-4 c = rw c.in-73.is

returns-5 : tie.Need-returns-in-68
returns-5 c = rw c.in-68.is

returns-6 : tie.Need-returns-in_default
returns-6 c = no_rank c.args.letter c.in_default.in_default-own.rest

pub rank_spec : {M : Type 1} → statement M
rank_spec = tie.close (tie.spec returns returns-2 returns-3 returns-4 returns-5 returns-6)
