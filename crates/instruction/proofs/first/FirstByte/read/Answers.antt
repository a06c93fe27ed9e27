-- What `FirstByte::read` answers: both halves of the byte's four bits.
-- Assumes nothing.
use Rattle.instruction.proofs.FirstBytes.{both}
use Rattle.instruction.proofs.first.FirstByte.read.Goals as goal

pub returns : goal.returns
returns c = both c.args.first c.ranges.first.fits _ c.bits-said.ensures _ c.flow_by.ensures
