-- What `name_at` answers, by what the first byte says.
-- Assumes nothing.
use Rattle.std.proofs.Common.{◌∙◌}
use Rattle.targets.proofs.Naming.{whole_name, no_name}
use Rattle.targets.proofs.Openings.{whole_says, not_whole_says}
use Rattle.targets.proofs.name.name_at.Goals as goal

pub name_by-requires : goal.name_by-requires
name_by-requires c =
    let w = whole_says c.args.image.now c.args.p c.in-Ok.o c.in-Ok.ensures in
    record { p_in_bounds = (w.inside, w.small); p_value = (w.fits, w.next, w.flow) }

pub returns-in-Ok : goal.returns-in-Ok
returns-in-Ok c =
    let w = whole_says c.args.image.now c.args.p c.in-Ok.o c.in-Ok.ensures in
    c.name_by.ensures ∙ whole_name c.args.mode c.args.image.now c.args.p w.inside w.small w.fits

pub returns-in-Err : goal.returns-in-Err
returns-in-Err c =
    let a = c.args in
    no_name a.mode a.image.now a.p (not_whole_says a.mode a.image.now a.p _ c.in-Err.ensures).1
