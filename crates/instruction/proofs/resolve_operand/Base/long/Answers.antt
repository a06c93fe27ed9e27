-- What `long` answers.
-- Assumes nothing.
use Rattle.std.proofs.Common.{◌≡◌, ℕ, ◌<◌, ◌%◌, false, sym, ap, ◌∙◌, w32, to_z, of_z, rules}
use Rattle.instruction.specs.Answer.{accepted}
use Rattle.instruction.specs.Code.{code_of}
use Rattle.instruction.specs.declared.mode.Mode.TheVariants.{Unwrapped}
use Rattle.instruction.specs.ResolveOperand.{no_address}
use Rattle.instruction.proofs.Resolving.{wraps_is, long_no, long_is}
use Rattle.instruction.proofs.Sign.{back}
use Rattle.instruction.proofs.resolve_operand.Base.long.Goals as goal

pub returns-then-is_outside : goal.returns-then-is_outside
returns-then-is_outside c =
    let e = rw (back c.ranges.z) at c.is_outside.ensures in
    rw (back c.ranges.z) (long_no Unwrapped c.args.self.address 0 c.args.z (sym e ∙ c.if-is_outside.true))

pub returns : goal.returns
returns c =
    let e = rw (back c.ranges.z) at c.is_outside.ensures in
    let r : ℕ = c.wrapping_sub_u16-back.result in
    let inside : no_address c.args.z ≡ false = sym e ∙ c.if-is_outside.false in
    let x : c.code.result ≡ code_of c.args.z = rw (back c.ranges.z) at c.code.ensures in
    let h : r < 65536 = search rules in
    let f : to_z w32 (of_z w32 c.num.result) ≡ c.num.result = search rules in
    ap accepted (f ∙ c.num.ensures)
    ∙ long_is Unwrapped c.args.self.address 0 c.args.z inside c.wrapping_add_u16-offset.result
    (c.wrapping_add_u16-offset.ensures.value
    ∙ wraps_is c.args.z c.args.self.address r inside c.args.self.in_memory h (c.wrapping_sub_u16-back.ensures.value ∙ ap (λ (m : ℕ). m % 65536) x))
