-- What is not found of `damage::is_off_jmpf`: the two tests of the definition.
-- Assumes nothing.
use mathlib.Core.Path.{◌∙◌}
use borrow.Author.Tests.{ne_eqb}
use Rattle.reach.specs.Mark.{flash}
use Rattle.views.proofs.Checking.{no_flash, by_byte}
use Rattle.views.proofs.damage.is_off_jmpf.Goals as goal

pub returns-then-mark-eq-FLASH : goal.returns-then-mark-eq-FLASH
returns-then-mark-eq-FLASH c =
    let a = c.args in by_byte a.image.now a.p a.mark c.if-mark-eq-FLASH.true (c.type_inv.image a.p).fits

pub returns-else-mark-eq-FLASH : goal.returns-else-mark-eq-FLASH
returns-else-mark-eq-FLASH c =
    let a = c.args in
    ne_eqb a.mark flash c.if-mark-eq-FLASH.false ∙ no_flash a.image.now a.p a.mark c.if-mark-eq-FLASH.false
