-- What is not found of `exempt::is_exempt`: two bytes stand before such a Jmpf, and both tests decide.
-- Assumes nothing.
use Rattle.std.proofs.Common.{sym, ap, ◌∙◌}
use mathlib.Core.Bool.{Bool, ◌&&◌}
use lib.ListN.{get_or}
use Prim.Native.Nat.{◌-◌}
use Rattle.instruction.proofs.Ands.{not_first}
use Rattle.reach.specs.Mark.{traced_mark}
use Rattle.marks.specs.Tracer.{exempt_here}
use Rattle.marks.proofs.Jmpf.{two_before}
use Rattle.marks.proofs.exempt.is_exempt.Goals as goal

pub overflow_sub-p : goal.overflow_sub-p
overflow_sub-p c = two_before c.args.image.now c.args.p (sym c.is_flash.ensures ∙ c.if-is_flash.true)

pub returns-then-is_flash : goal.returns-then-is_flash
unfolding exempt_here
returns-then-is_flash c =
    let a = c.args in
    c.is_traced.ensures ∙ ap traced_mark c.at.ensures
    ∙ sym (ap (λ (b : Bool). b && traced_mark (get_or a.marks.now (a.p - 2) 0)) (sym c.is_flash.ensures ∙ c.if-is_flash.true))

pub returns-else-is_flash : goal.returns-else-is_flash
unfolding exempt_here
returns-else-is_flash c = c.if-is_flash.false ∙ sym (not_first _ _ (sym c.is_flash.ensures ∙ c.if-is_flash.false))
