-- What is not found of `bits::with_ones`: the two words.
-- Assumes nothing.
use Prim.Native.Nat.{◌+◌}
use Rattle.map.proofs.Stretches.{with_is, with_none}
use Rattle.map.proofs.bits.with_ones.Goals as goal

pub returns-then-from-ge64 : goal.returns-then-from-ge64
returns-then-from-ge64 c = let a = c.args in with_none a.w c.ranges.w.fits a.from (a.from + a.n) c.if-from-ge64.true

pub returns : goal.returns
returns c = let a = c.args in with_is a.w c.ranges.w.fits a.from (a.from + a.n) c.some_from.result c.some_from.ensures
