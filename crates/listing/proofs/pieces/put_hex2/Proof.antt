-- `pieces::put_hex2` meets its contract.
-- Assumes nothing.
use borrow.Author.Rules.{rules}
use Rattle.listing.specs.Hex.{hex2}
use Rattle.text.proofs.Putting.{puts_then}
use Rattle.listing.proofs.pieces.put_hex2.Statement.{statement}
use Rattle.listing.proofs.pieces.put_hex2.Tie as tie

returns : tie.Need-returns
unfolding hex2
returns c = let k = c.before.before in puts_then k.put_digit-a.ensures k.put_digit.ensures

pub put_hex2_spec : {M : Type 1} → statement M
put_hex2_spec = tie.close (tie.spec (λ c κs. search rules) (λ c κs. search rules) (λ c. search rules) returns)
