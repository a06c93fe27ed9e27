-- `message::put_message` meets its contract.
-- Assumes nothing.
use mathlib.Core.Path.{ap}
use borrow.Author.Rules.{rules}
use Rattle.text.proofs.Putting.{puts_then, puts_as}
use Rattle.list_text.specs.Decimal.{decimal}
use Rattle.dis_text.specs.Word.{codes}
use Rattle.dis_text.specs.Message.{message}
use Rattle.dis_text.proofs.message.put_message.Statement.{statement}
use Rattle.dis_text.proofs.message.put_message.Tie as tie

returns : tie.Need-returns
unfolding codes message
returns c =
    let e = c.before.before in
    let r = e.before.before.before.before.before in
    let p = r.before.before.before.before in
    let d = p.before.before.before.before.before in
    let n = d.before.before in
    let b = n.before.before.before in
    let first = puts_then b.put-a.ensures (puts_as (ap decimal n.number_of.ensures) d.put_decimal-b.ensures.0) in
    puts_then (puts_then (puts_then first p.put-c.ensures) r.put_reason-d.ensures.0) e.put.ensures

pub put_message_spec : {M : Type 1} → statement M
put_message_spec =
    tie.close
    (tie.spec (λ c κs. search rules) (λ c κs. search rules) (λ c κs. search rules) (λ c κs. search rules) (λ c κs. search rules) (λ c κs. search rules) (λ c. search rules) returns)
