-- `line::put_pair` meets its contract.
-- Assumes nothing.
use Rattle.unlist_text.proofs.Lines.{pair_put}
use Rattle.unlist_text.proofs.line.put_pair.Goals as goal

pub returns : goal.returns
returns c = let a = c.args in pair_put a.b a.at c.hex1.result c.hex1-2.result a.room.now c.hex1.ensures c.hex1-2.ensures
