-- What is not found of `arrival::needed`: there are no more arrivals than positions.
-- Assumes nothing.
use Rattle.arrivals.proofs.Arriving.{few}
use Rattle.arrivals.proofs.arrival.needed.Goals as goal

pub returns-then-image-room-clause-lower_bound : goal.returns-then-image-room-clause-lower_bound
returns-then-image-room-clause-lower_bound c = let a = c.args in few a.mode a.image.now a.marks.now a.p
