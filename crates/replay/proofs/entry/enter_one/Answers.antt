-- `entry::enter_one` meets its contract.
-- Assumes nothing.
use Rattle.replay.proofs.Entries.{entry_outside, entry_inside}
use Rattle.replay.proofs.entry.enter_one.Goals as goal

pub returns-then-q-ge-NOWHERE : goal.returns-then-q-ge-NOWHERE
returns-then-q-ge-NOWHERE c = let a = c.args in entry_outside a.q a.table.now c.if-q-ge-NOWHERE.true

pub returns : goal.returns
returns c = let a = c.args in entry_inside a.q _ a.table.now c.if-q-ge-NOWHERE.false c.with_ones.ensures
