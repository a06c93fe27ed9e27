-- `rooms::bytes` meets its contract.
-- Assumes nothing.
use mathlib.Core.Path.{refl}
use Rattle.list_text.proofs.rooms.bytes.Statement.{statement}
use Rattle.list_text.proofs.rooms.bytes.Tie as tie

returns : tie.Need-returns
returns c = refl

pub bytes_spec : {M : Type 1} → statement M
bytes_spec = tie.close (tie.spec returns)
