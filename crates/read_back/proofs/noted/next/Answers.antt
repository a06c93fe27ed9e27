-- `noted::next` meets its contract.
-- Assumes nothing.
use Rattle.read_back.proofs.Marking.{next_some, next_none}
use Rattle.read_back.proofs.noted.next.Goals as goal

pub returns-in_default : goal.returns-in_default
returns-in_default c =
    let a = c.args in
    next_none a.table.now a.n a.q c.told-table c.requires.0 c.requires.1 c.first_data.result c.first_data.ensures c.in_default.not-Ok

pub returns : goal.returns
returns c = let a = c.args in next_some a.table.now a.n a.q c.told-table c.requires.0 c.requires.1 _ c.in-Ok.ensures
