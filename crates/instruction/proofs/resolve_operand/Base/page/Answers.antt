-- What `page` answers.
-- Assumes nothing.
use Rattle.std.proofs.Common.{◌≡◌, ℕ, ◌%◌, false, pos, nat_abs, sym, ap, ◌∙◌, w32, to_z, of_z, rules}
use Rattle.std.proofs.lemmas.Result.{err_from_is_err_and}
use Rattle.instruction.specs.Answer.{accepted}
use Rattle.instruction.specs.declared.mode.Mode.TheVariants.{Unwrapped}
use Rattle.instruction.specs.ResolveOperand.{no_address, top}
use Rattle.instruction.proofs.Resolving.{address_is, no_far, told, page_no, page_other, page_is}
use Rattle.instruction.proofs.Sign.{back}
use Rattle.instruction.proofs.resolve_operand.Base.page.Goals as goal

pub returns-in_err-held : goal.returns-in_err-held
returns-in_err-held c =
    let p = err_from_is_err_and c.from_residual.result c.from_residual.ensures.1 in
    let e = rw (back c.ranges.z) at c.in_err-held.ensures in
    rw (p.1, p.2) (told e.1 (page_no Unwrapped c.args.self.address c.args.n c.args.z (sym (no_far c.args.z) ∙ e.0)))

pub returns-then-there-here : goal.returns-then-there-here
returns-then-there-here c =
    let e = rw (back c.ranges.z) at c.in_ok-held.ensures in
    let inside : no_address c.args.z ≡ false = sym (no_far c.args.z) ∙ e.0 in
    let at : c.code-address.result ≡ nat_abs c.args.z = (rw (e.1, back c.ranges.z) at c.code-address.ensures) ∙ address_is c.args.z inside in
    rw at (page_other Unwrapped c.args.self.address c.args.n c.args.z inside (λ f. c.if-there-here.true (ap top at ∙ f)))

pub returns : goal.returns
returns c =
    let e = rw (back c.ranges.z) at c.in_ok-held.ensures in
    let inside : no_address c.args.z ≡ false = sym (no_far c.args.z) ∙ e.0 in
    let at : c.code-address.result ≡ nat_abs c.args.z = (rw (e.1, back c.ranges.z) at c.code-address.ensures) ∙ address_is c.args.z inside in
    let f : to_z w32 (of_z w32 c.num.result) ≡ c.num.result = search rules in
    ap accepted (f ∙ c.num.ensures ∙ ap (λ (m : ℕ). pos (m % 4096)) at)
    ∙ page_is Unwrapped c.args.self.address c.args.n c.args.z inside (sym (ap top at) ∙ c.if-there-here.false)
