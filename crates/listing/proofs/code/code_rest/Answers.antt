-- The bytes are no one instruction, it ends too far, or what follows it is put.
-- Assumes nothing.
use Rattle.std.proofs.Common.{arith}
use Rattle.text.proofs.Putting.{puts_as, puts_none}
use Rattle.listing.proofs.Opened.{opened}
use Rattle.listing.proofs.Resting.{rest_not_found, rest_other, rest_over, rest_whole}
use Rattle.listing.proofs.code.code_rest.Goals as goal

pub returns-in_default : goal.returns-in_default
returns-in_default c =
    let a = c.args in
    puts_as (rest_not_found a.mode a.p a.bytes.now c.in_default.field-0 c.in_default.ensures) (puts_none _ _)

pub returns-then-n-bytes : goal.returns-then-n-bytes
returns-then-n-bytes c =
    let a = c.args in
    puts_as (rest_other a.mode a.p a.bytes.now c.in-Ok.v c.in-Ok.ensures (λ n. (c.type_inv.bytes n).fits) c.size-n.result c.size-n.ensures c.if-n-bytes.true) (puts_none _ _)

pub overflow_add-next : goal.overflow_add-next
overflow_add-next c =
    record { fits = omega (arith, c.size-n.ensures, (opened c.args.bytes.now c.in-Ok.v c.in-Ok.ensures (λ n. (c.type_inv.bytes n).fits)).few) }

pub returns-then-next : goal.returns-then-next
returns-then-next c =
    let a = c.args in
    puts_as (rest_over a.mode a.p a.bytes.now c.in-Ok.v c.in-Ok.ensures (λ n. (c.type_inv.bytes n).fits) c.size-n.result c.size-n.ensures c.if-n-bytes.false
    c.if-next.true) (puts_none _ _)

pub returns : goal.returns
returns c =
    let a = c.args in
    puts_as (rest_whole a.mode a.p a.bytes.now c.in-Ok.v c.in-Ok.ensures (λ n. (c.type_inv.bytes n).fits) c.size-n.result c.size-n.ensures c.if-n-bytes.false
    c.if-next.false) c.put_rest.ensures
