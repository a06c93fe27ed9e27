-- `operands::put_field` meets its contract.
-- Assumes nothing.
use mathlib.Core.Path.{sym, ap, ◌∙◌}
use mathlib.Core.List.{◌∷◌}
use borrow.Author.Rules.{rules}
use borrow.Author.Tests.{not-true, not-false}
use lib.IntN.{ℤ, nat_abs}
use Prim.Native.Nat.{ℕ}
use Rattle.instruction.proofs.Sign.{back}
use Rattle.targets.specs.Asked.{operand_place}
use Rattle.text.proofs.Putting.{puts_as, puts_none, puts_then}
use Rattle.listing.specs.Alone.{shown_alone}
use Rattle.listing.proofs.Showing.{is_field, is_none}
use Rattle.listing.proofs.operands.put_field.Statement.{statement}
use Rattle.listing.proofs.operands.put_field.Tie as tie

abbrev t : tie.Start → ℕ
t s = operand_place s.args.mode s.args.next s.args.kind s.args.z

returns : tie.Need-returns-then-not-is_given
returns c =
    let g = c.before in
    let s = g.before.before in
    puts_as (is_none (t s) s.args.kind (nat_abs s.args.z) (sym g.is_given.ensures ∙ not-true _ c.if-not-is_given.true-raw)) (puts_none _ _)

returns-2 : tie.Need-returns
returns-2 c =
    let k = c.before.before in
    let j = k.before.before.before.before in
    let e = j.before.before in
    let g = e.before in
    let s = g.before.before in
    let a = s.args in
    puts_as
    (ap (λ (z : ℤ). 9 ∷ shown_alone a.mode a.next a.kind z) (back s.ranges.z)
    ∙ is_field (t s) a.kind (nat_abs a.z) (sym g.is_given.ensures ∙ not-false _ e.if-not-is_given.false-raw))
    (puts_then j.put_byte-a.ensures k.put_operand.ensures)

pub put_field_spec : {M : Type 1} → statement M
put_field_spec =
    tie.close (tie.spec (λ c κs. search rules) returns (λ c κs. search rules) (λ c κs. search rules) (λ c. search rules) returns-2)
