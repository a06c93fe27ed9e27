-- What is not found of `bits::low`: the two words.
-- Assumes nothing.
use Rattle.map.proofs.Stretches.{low_all, low_is}
use Rattle.map.proofs.bits.low.Goals as goal

pub returns-then-to-ge64 : goal.returns-then-to-ge64
returns-then-to-ge64 c = low_all c.args.to c.if-to-ge64.true

pub returns : goal.returns
returns c = low_is c.args.to c.if-to-ge64.false
