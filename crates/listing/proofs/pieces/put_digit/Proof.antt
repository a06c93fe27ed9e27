-- `pieces::put_digit` meets its contract.
-- Assumes nothing.
use borrow.Author.Rules.{rules}
use Rattle.listing.proofs.pieces.put_digit.Statement.{statement}
use Rattle.listing.proofs.pieces.put_digit.Tie as tie

returns : tie.Need-returns
returns c = let k = c.before.before in rw (← k.hex1.ensures) k.put_byte.ensures

pub put_digit_spec : {M : Type 1} → statement M
put_digit_spec = tie.close (tie.spec (λ c κs. search rules) (λ c κs. search rules) (λ c. search rules) returns)
