-- What is not found of `named::named_at`: whether it is traced.
-- Assumes nothing.
use mathlib.Core.Path.{sym, ◌∙◌}
use Rattle.arrivals.proofs.Namers.{untraced_name, traced_name}
use Rattle.arrivals.proofs.named.named_at.Goals as goal

pub returns-then-not-is_traced_at : goal.returns-then-not-is_traced_at
returns-then-not-is_traced_at c =
    let a = c.args in untraced_name a.mode a.image.now a.marks.now a.q (sym c.is_traced_at.ensures ∙ c.if-not-is_traced_at.true)

pub returns : goal.returns
returns c =
    let a = c.args in
    c.name_at.ensures ∙ traced_name a.mode a.image.now a.marks.now a.q (sym c.is_traced_at.ensures ∙ c.if-not-is_traced_at.false)
