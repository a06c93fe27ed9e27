-- A signed number read back from the machine is itself. `search needs` proves it of a number that a call answered.
-- Assumes nothing.
use Rattle.std.proofs.Common.{◌≡◌, ℤ, w32, to_z, of_z}

abbrev pub Read : ℤ → Type 0
Read z = to_z w32 (of_z w32 z) ≡ z
