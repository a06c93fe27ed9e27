-- `pieces::put_byte` meets its contract.
-- Assumes nothing.
use borrow.Author.Rules.{rules}
use Rattle.text.proofs.Putting.{puts_past}
use Rattle.listing.proofs.pieces.put_byte.Statement.{statement}
use Rattle.listing.proofs.pieces.put_byte.Tie as tie

returns-2 : tie.Need-returns-else-at-out
returns-2 c = let a = c.args in puts_past a.b a.at a.out.now c.if-at-out.false

pub put_byte_spec : {M : Type 1} → statement M
put_byte_spec = tie.close (tie.spec (λ c. search rules) (λ c. search rules) (λ c. search rules) (λ c. search rules) returns-2)
