-- `message::put_bad` meets its contract.
-- Assumes nothing.
use native.Mathlib.Omega.{arith}
use borrow.Author.Rules.{rules}
use Rattle.text.proofs.Putting.{puts_then}
use Rattle.dis_text.specs.Word.{codes}
use Rattle.dis_text.proofs.message.put_bad.Statement.{statement}
use Rattle.dis_text.proofs.message.put_bad.Tie as tie

returns : tie.Need-returns
unfolding codes
returns c =
    let p = c.before.before in
    let q = p.before.before.before.before in
    (puts_then q.put-a.ensures p.put_decimal.ensures.0, omega (arith, q.put-a.ensures.next, p.put_decimal.ensures.1))

pub put_bad_spec : {M : Type 1} → statement M
put_bad_spec =
    tie.close
    (tie.spec (λ c κs. search rules) (λ c κs. search rules) (λ c. search rules) returns)
