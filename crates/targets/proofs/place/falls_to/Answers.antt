-- What `falls_to` answers, by what the first byte says.
-- Assumes nothing.
use Rattle.std.proofs.Common.{sym, ap, ◌∙◌}
use Rattle.targets.specs.At.{place_of}
use Rattle.targets.proofs.Falling.{falls_none, falls_not, falls_so}
use Rattle.targets.proofs.Openings.{whole_says, not_whole_says}
use Rattle.targets.proofs.place.falls_to.Goals as goal

pub returns-then-goes_on : goal.returns-then-goes_on
returns-then-goes_on c =
    let a = c.args in
    let w = whole_says a.image.now a.q c.in-Ok.o c.in-Ok.ensures in
    falls_so a.mode a.image.now a.q a.p _ w (sym c.if-goes_on.ensures) _ (ap place_of c.next_place.ensures.0)

pub returns-else-goes_on : goal.returns-else-goes_on
returns-else-goes_on c =
    let a = c.args in
    let w = whole_says a.image.now a.q c.in-Ok.o c.in-Ok.ensures in
    c.if-goes_on.false ∙ falls_not a.mode a.image.now a.q a.p _ w (sym c.if-goes_on.ensures)

pub returns-in-Err : goal.returns-in-Err
returns-in-Err c =
    let a = c.args in
    falls_none a.mode a.image.now a.q a.p (not_whole_says a.mode a.image.now a.q _ c.in-Err.ensures).1
