-- `pieces::put_hex3` meets its contract.
-- Assumes nothing.
use borrow.Author.Rules.{rules}
use Rattle.listing.specs.Hex.{hex3}
use Rattle.text.proofs.Putting.{puts_then}
use Rattle.listing.proofs.pieces.put_hex3.Statement.{statement}
use Rattle.listing.proofs.pieces.put_hex3.Tie as tie

returns : tie.Need-returns
unfolding hex3
returns c = let k = c.before.before in puts_then k.put_digit-a.ensures k.put_hex2.ensures

pub put_hex3_spec : {M : Type 1} → statement M
put_hex3_spec = tie.close (tie.spec (λ c κs. search rules) (λ c κs. search rules) (λ c. search rules) returns)
