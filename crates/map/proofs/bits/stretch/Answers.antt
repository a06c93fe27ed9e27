-- What is not found of `bits::stretch`: the word.
-- Assumes nothing.
use Rattle.map.proofs.Stretches.{stretch_is}
use Rattle.map.proofs.bits.stretch.Goals as goal

pub returns : goal.returns
returns c = let a = c.args in stretch_is a.from a.to c.low.result c.low-2.result c.low.ensures c.low-2.ensures
