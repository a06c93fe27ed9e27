-- `put::digit` meets its contract.
-- Assumes nothing.
use borrow.Author.Rules.{rules}
use Rattle.listing.specs.Hex.{hex1}
use Rattle.listing.proofs.Hexing.{low, high}
use Rattle.listing.proofs.hex.hex1.Statement.{statement}
use Rattle.listing.proofs.hex.hex1.Tie as tie

returns : tie.Need-returns-then-d-lt10
unfolding hex1
returns c = low _ c.if-d-lt10.true

returns-2 : tie.Need-returns-else-d-lt10
unfolding hex1
returns-2 c = high _ c.if-d-lt10.false

pub hex1_spec : {M : Type 1} → statement M
hex1_spec = tie.close (tie.spec (λ c. search rules) (λ c. search rules) (λ c. search rules) returns returns-2)
