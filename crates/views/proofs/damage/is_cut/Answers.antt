-- What is not found of `damage::is_cut`: whether three bytes are left.
-- Assumes nothing.
use mathlib.Core.Path.{◌∙◌}
use Prim.Native.Nat.{◌+◌}
use lib.ListN.{length}
use borrow.Author.Tests.{le-ltb}
use Rattle.views.proofs.Checking.{three_left, cut_off_lem}
use Rattle.views.proofs.damage.is_cut.Goals as goal

pub returns-then-n-at : goal.returns-then-n-at
returns-then-n-at c = cut_off_lem c.args.image.now c.args.p c.size_at.result c.size_at.ensures

pub returns-else-n-at : goal.returns-else-n-at
returns-else-n-at c =
    let a = c.args in
    le-ltb (length a.image.now) (a.p + 3) c.if-n-at.false ∙ three_left a.image.now a.p (λ n. (c.type_inv.image n).fits) c.if-n-at.false
