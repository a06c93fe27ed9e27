-- What is not found of `bits::first_zero`: what the word says.
-- Assumes nothing.
use Rattle.map.proofs.Stretches.{zero_is}
use Rattle.map.proofs.bits.first_zero.Goals as goal

pub returns : goal.returns
returns c = let a = c.args in zero_is a.w c.ranges.w.fits a.from c.low.result c.low.ensures
