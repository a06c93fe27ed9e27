-- What `name_by` answers, by whether the flow names an address.
-- Assumes nothing.
use Rattle.std.proofs.Common.{false, true, sym, ◌∙◌}
use Rattle.targets.proofs.Openings.{names}
use Rattle.targets.proofs.name.name_by.Goals as goal

pub returns-then-is_naming : goal.returns-then-is_naming
returns-then-is_naming c =
    let a = c.args in
    c.place_at.ensures
    ∙ names a.mode a.image.now a.p (λ n. (c.type_inv.image n).fits) a.flow c.requires.p_value.2 true (sym c.if-is_naming.ensures)

pub returns : goal.returns
returns c =
    let a = c.args in
    names a.mode a.image.now a.p (λ n. (c.type_inv.image n).fits) a.flow c.requires.p_value.2 false (sym c.if-is_naming.ensures)
