-- `entry::is_entry` meets its contract.
-- Assumes nothing.
use Rattle.map.specs.Words.{code_at}
use Rattle.replay.proofs.entry.is_entry.Goals as goal

pub returns : goal.returns
unfolding code_at
returns c = c.is_one.ensures
