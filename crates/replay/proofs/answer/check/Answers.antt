-- `answer::check` meets its contract.
-- Assumes nothing.
use Rattle.replay.proofs.answer.check.Goals as goal

pub returns : goal.returns
returns c = c.check_room.ensures
