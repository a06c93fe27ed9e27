-- `noted::note` meets its contract.
-- Assumes nothing.
use Rattle.std.proofs.Common.{◌/◌}
use Rattle.read_back.proofs.Noting.{noted, unnoted}
use Rattle.read_back.proofs.noted.note.Goals as goal

pub returns-then-r-eq73 : goal.returns-then-r-eq73
returns-then-r-eq73 c =
    let a = c.args in
    noted a.r a.table.now c.if-r-eq73.true c.with_ones.result (c.fits-table (a.r.position / 64)) c.with_ones.ensures

pub returns-else-r-eq73 : goal.returns-else-r-eq73
returns-else-r-eq73 c = let a = c.args in unnoted a.r a.table.now c.if-r-eq73.false
