-- What is not found of `damage::sound_to`: no mark that is looked at is damaged.
-- Assumes nothing.
use mathlib.Core.Path.{sym, ◌∙◌}
use native.Mathlib.Omega.{arith}
use Rattle.views.proofs.Checking.{right}
use Rattle.views.proofs.damage.sound_to.Goals as goal

pub returns : goal.returns
returns c =
    let a = c.args in (
      omega arith,
      λ p h. right a.image.now a.marks.now (λ n. (c.type_inv.image n).fits) p (omega (arith, h, c.if-n-lt3.false))
          (sym c.any_wrong.ensures ∙ c.if-any_wrong.false) h,
    )
