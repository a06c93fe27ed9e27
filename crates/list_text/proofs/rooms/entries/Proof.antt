-- `rooms::entries` meets its contract.
-- Assumes nothing.
use mathlib.Core.Path.{refl}
use Rattle.list_text.proofs.rooms.entries.Statement.{statement}
use Rattle.list_text.proofs.rooms.entries.Tie as tie

returns : tie.Need-returns
returns c = refl

pub entries_spec : {M : Type 1} → statement M
entries_spec = tie.close (tie.spec returns)
