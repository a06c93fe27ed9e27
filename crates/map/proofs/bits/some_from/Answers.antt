-- What is not found of `bits::some_from`: the word.
-- Assumes nothing.
use Rattle.map.proofs.Stretches.{some_is}
use Rattle.map.proofs.bits.some_from.Goals as goal

pub returns : goal.returns
returns c = let a = c.args in some_is a.from a.n c.low.result c.low.ensures
