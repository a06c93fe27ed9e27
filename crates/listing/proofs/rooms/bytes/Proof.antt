-- `rooms::bytes` meets its contract.
-- Assumes nothing.
use mathlib.Core.Path.{sym}
use Prim.Native.Nat.{ℕ}
use lib.ListN.{length-replicate}
use Rattle.listing.proofs.rooms.bytes.Statement.{statement}
use Rattle.listing.proofs.rooms.bytes.Tie as tie

returns : tie.Need-returns
returns c = sym (length-replicate {A = ℕ} 65536 0)

pub bytes_spec : {M : Type 1} → statement M
bytes_spec = tie.close (tie.spec returns)
