-- What is not found of `bits::ones_between`: what the word says.
-- Assumes nothing.
use Rattle.map.proofs.Stretches.{ones_is}
use Rattle.map.proofs.bits.ones_between.Goals as goal

pub returns : goal.returns
returns c = let a = c.args in ones_is a.w c.ranges.w.fits a.from a.to c.stretch.result c.stretch.ensures
