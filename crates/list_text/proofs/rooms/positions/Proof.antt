-- `rooms::positions` meets its contract.
-- Assumes nothing.
use mathlib.Core.Path.{refl}
use Rattle.list_text.proofs.rooms.positions.Statement.{statement}
use Rattle.list_text.proofs.rooms.positions.Tie as tie

returns : tie.Need-returns
returns c = refl

pub positions_spec : {M : Type 1} → statement M
positions_spec = tie.close (tie.spec returns)
