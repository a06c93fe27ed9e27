-- `message::put_decimal` meets its contract.
-- Assumes nothing.
use mathlib.Core.Path.{refl, ap}
use Prim.Native.Nat.{ℕ, ◌^◌, ◌<◌}
use native.Mathlib.Omega.{arith}
use borrow.Author.Rules.{rules}
use Rattle.text.proofs.Putting.{puts_as}
use Rattle.list_text.specs.Decimal.{lowest}
use Rattle.list_text.proofs.Decimals.{width_of}
use Rattle.list_text.proofs.RefusalPutting.{digits_put}
use Rattle.dis_text.proofs.message.put_decimal.Statement.{statement}
use Rattle.dis_text.proofs.message.put_decimal.Tie as tie

returns : tie.Need-returns
returns c =
    let p = c.before.before in
    let w = p.before.before in
    let s = w.before.before in
    let a = s.args in
    let n : ℕ = a.n in
    let e = w.width-k.ensures.0 in
    let f : n < 2 ^ 64 = s.ranges.n.fits in (
      puts_as (ap (λ (k : ℕ). lowest k n) e) (digits_put w.width-k.result n a.at _ a.room.now _ p.put.ensures refl),
      omega (arith, e, width_of n (omega (arith, f))),
    )

pub put_decimal_spec : {M : Type 1} → statement M
put_decimal_spec = tie.close (tie.spec (λ c κs. search rules) (λ c κs. search rules) (λ c. search rules) (λ c. search rules) returns)
