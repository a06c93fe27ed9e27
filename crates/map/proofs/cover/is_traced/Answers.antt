-- What is not found of `cover::is_traced`: the bit.
-- Assumes nothing.
use Rattle.map.proofs.Sounding.{by_bit}
use Rattle.map.proofs.cover.is_traced.Goals as goal

pub returns : goal.returns
returns c = by_bit c.args.mark c.requires
