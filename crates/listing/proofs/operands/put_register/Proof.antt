-- `operands::put_register` meets its contract.
-- Assumes nothing.
use borrow.Author.Rules.{rules}
use Rattle.text.proofs.Putting.{puts_then}
use Rattle.listing.proofs.operands.put_register.Statement.{statement}
use Rattle.listing.proofs.operands.put_register.Tie as tie

returns : tie.Need-returns
returns c =
    let k = c.before.before in
    let j = k.before.before.before.before in
    puts_then j.put_byte-a.ensures (puts_then j.put_byte-b.ensures k.put_digit.ensures)

pub put_register_spec : {M : Type 1} → statement M
put_register_spec =
    tie.close (tie.spec (λ c κs. search rules) (λ c κs. search rules) (λ c κs. search rules) (λ c. search rules) returns)
