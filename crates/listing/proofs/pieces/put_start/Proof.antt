-- `pieces::put_start` meets its contract.
-- Assumes nothing.
use borrow.Author.Rules.{rules}
use Rattle.text.proofs.Putting.{puts_then}
use Rattle.listing.proofs.pieces.put_start.Statement.{statement}
use Rattle.listing.proofs.pieces.put_start.Tie as tie

returns : tie.Need-returns
returns c = let k = c.before.before in puts_then k.put_byte-a.ensures k.put_place.ensures

pub put_start_spec : {M : Type 1} → statement M
put_start_spec = tie.close (tie.spec (λ c κs. search rules) (λ c κs. search rules) (λ c. search rules) returns)
