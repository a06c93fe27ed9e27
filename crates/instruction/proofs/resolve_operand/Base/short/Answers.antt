-- What `short` answers.
-- Assumes nothing.
use Rattle.std.proofs.Common.{◌≡◌, [], ◌∷◌, ℤ, pos, negsuc, sym, ap, ◌∙◌, w32, to_z, of_z, rules}
use Rattle.instruction.specs.Answer.{accepted, refused}
use Rattle.instruction.specs.Range.{outside}
use Rattle.instruction.proofs.Resolving.{short_no, short_far, short_is}
use Rattle.instruction.proofs.Sign.{back}
use Rattle.instruction.proofs.resolve_operand.Base.short.Goals as goal

pub returns-then-is_outside : goal.returns-then-is_outside
returns-then-is_outside c =
    let e = rw (back c.ranges.address) at c.is_outside.ensures in
    rw (back c.ranges.address) (short_no c.args.self.mode c.args.self.address 0 c.args.address (sym e ∙ c.if-is_outside.true))

pub returns-then-is_outside-2 : goal.returns-then-is_outside-2
returns-then-is_outside-2 c =
    let e = rw (back c.ranges.address) at c.is_outside.ensures in
    let f : to_z w32 (of_z w32 c.difference-offset.result) ≡ c.difference-offset.result = search rules in
    let d = f ∙ (rw (back c.ranges.address) at c.difference-offset.ensures) in
    ap (λ (y : ℤ). refused 9 (y ∷ [])) d
    ∙ short_far c.args.self.mode c.args.self.address 0 c.args.address (sym e ∙ c.if-is_outside.false)
    (sym (ap (outside (negsuc 127) (pos 127)) d) ∙ sym c.is_outside-2.ensures ∙ c.if-is_outside-2.true)

pub returns : goal.returns
returns c =
    let e = rw (back c.ranges.address) at c.is_outside.ensures in
    let f : to_z w32 (of_z w32 c.difference-offset.result) ≡ c.difference-offset.result = search rules in
    let d = f ∙ (rw (back c.ranges.address) at c.difference-offset.ensures) in
    ap accepted d
    ∙ short_is c.args.self.mode c.args.self.address 0 c.args.address (sym e ∙ c.if-is_outside.false)
    (sym (ap (outside (negsuc 127) (pos 127)) d) ∙ sym c.is_outside-2.ensures ∙ c.if-is_outside-2.false)
