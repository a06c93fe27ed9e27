-- `pieces::put_place` meets its contract.
-- Assumes nothing.
use borrow.Author.Rules.{rules}
use Rattle.text.proofs.Putting.{puts_then}
use Rattle.listing.proofs.pieces.put_place.Statement.{statement}
use Rattle.listing.proofs.pieces.put_place.Tie as tie

returns : tie.Need-returns
returns c = let k = c.before.before in puts_then k.put_byte-a.ensures k.put_hex4.ensures

pub put_place_spec : {M : Type 1} → statement M
put_place_spec = tie.close (tie.spec (λ c κs. search rules) (λ c κs. search rules) (λ c. search rules) returns)
