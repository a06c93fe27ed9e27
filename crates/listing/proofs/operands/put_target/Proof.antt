-- `operands::put_target` meets its contract.
-- Assumes nothing.
use mathlib.Core.Path.{◌≡◌, ap, ◌∙◌}
use Prim.Native.Nat.{◌<◌, ◌≤◌}
use native.Mathlib.Omega.{arith}
use borrow.Author.Rules.{rules}
use Rattle.instruction.proofs.Sign.{back}
use Rattle.targets.specs.Asked.{operand_place}
use Rattle.text.proofs.Putting.{puts_as}
use Rattle.listing.specs.Operand.{target}
use Rattle.listing.proofs.Showing.{outside, inside}
use Rattle.listing.proofs.operands.put_target.Statement.{statement}
use Rattle.listing.proofs.operands.put_target.Tie as tie

named : (o : tie.After-operand_place-t) → let s = o.before.before in
    o.operand_place-t.result ≡ operand_place s.args.mode s.args.next s.args.kind s.args.z
named o =
    let s = o.before.before in
    o.operand_place-t.ensures ∙ ap (operand_place s.args.mode s.args.next s.args.kind) (back s.ranges.z)

returns : tie.Need-returns-then-t-ge-NOWHERE
returns c =
    let k = c.before.before in
    let e = k.before.before in
    let o = e.before in
    let h : 65535 < o.operand_place-t.result = omega (arith, e.if-t-ge-NOWHERE.true) in
    puts_as (outside o.operand_place-t.result h ∙ ap target (named o)) k.put_byte.ensures

returns-2 : tie.Need-returns
returns-2 c =
    let k = c.before.before in
    let e = k.before.before in
    let o = e.before in
    let h : o.operand_place-t.result ≤ 65535 = omega (arith, e.if-t-ge-NOWHERE.false) in
    puts_as (inside o.operand_place-t.result h ∙ ap target (named o)) k.put_hex4.ensures

pub put_target_spec : {M : Type 1} → statement M
put_target_spec =
    tie.close
    (tie.spec (λ c κs. search rules) (λ c κs. search rules) (λ c. search rules) returns (λ c κs. search rules) (λ c. search rules) returns-2)
