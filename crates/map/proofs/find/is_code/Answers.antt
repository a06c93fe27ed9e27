-- What is not found of `find::is_code`: the bit.
-- Assumes nothing.
use Rattle.map.specs.Words.{code_at}
use Rattle.map.proofs.find.is_code.Goals as goal

pub returns : goal.returns
unfolding code_at
returns c = c.is_one.ensures
