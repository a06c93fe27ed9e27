-- What is not found of `damage::any_wrong`: one position more.
-- Assumes nothing.
use mathlib.Core.Path.{◌≡◌, sym, ap, ap₂, ◌∙◌}
use mathlib.Core.Bool.{◌||◌}
use native.Mathlib.Nat.{zero-add}
use native.Mathlib.Omega.{arith}
use Rattle.views.specs.View.{wrong_at}
use Rattle.views.proofs.Ups.{some_none, some_snoc, some_as}
use Rattle.views.proofs.damage.any_wrong.Goals as goal

pub loop-p-init : goal.loop-p-init
loop-p-init c = some_none _

pub loop-p-preserved : goal.loop-p-preserved
loop-p-preserved c =
    let f = wrong_at c.args.image.now c.args.marks.now in
    ap₂ ◌||◌ c.loop-p.invariant (c.is_wrong-any.ensures ∙ ap f (sym (zero-add c.loop-p.p))) ∙ sym (some_snoc f c.loop-p.p 0)

pub returns : goal.returns
returns c =
    c.loop-p.invariant ∙ some_as (wrong_at c.args.image.now c.args.marks.now) (let e : c.loop-p.p ≡ c.args.n = omega arith in e)
