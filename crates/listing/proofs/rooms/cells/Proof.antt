-- `rooms::cells` meets its contract.
-- Assumes nothing.
use mathlib.Core.Path.{sym}
use Prim.Native.Nat.{ℕ}
use lib.ListN.{length-replicate}
use Rattle.listing.proofs.rooms.cells.Statement.{statement}
use Rattle.listing.proofs.rooms.cells.Tie as tie

returns : tie.Need-returns
returns c = sym (length-replicate {A = ℕ} 131072 0)

pub cells_spec : {M : Type 1} → statement M
cells_spec = tie.close (tie.spec returns)
