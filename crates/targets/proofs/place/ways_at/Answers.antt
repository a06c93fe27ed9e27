-- What `ways_at` answers, by what the first byte says.
-- Assumes nothing.
use Rattle.targets.proofs.Openings.{whole_says, not_whole_says}
use Rattle.targets.proofs.WaysAre.{whole_goes}
use Rattle.targets.proofs.place.ways_at.Goals as goal

pub returns-in-Err : goal.returns-in-Err
returns-in-Err c = (not_whole_says c.args.mode c.args.image.now c.args.p _ c.in-Err.ensures).0

pub places_by-requires : goal.places_by-requires
places_by-requires c =
    let w = whole_says c.args.image.now c.args.p c.in-Ok.o c.in-Ok.ensures in
    record { p_in_bounds = (w.inside, w.small); p_value = (w.fits, w.next, w.flow) }

pub returns-in-Ok : goal.returns-in-Ok
returns-in-Ok c =
    let a = c.args in
    let w = whole_says a.image.now a.p c.in-Ok.o c.in-Ok.ensures in
    whole_goes a.mode a.image.now a.p w.inside w.small w.fits c.places_by.result c.places_by.ensures
