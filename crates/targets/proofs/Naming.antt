-- The position that an instruction names, where it is whole.
-- Assumes nothing.
use Rattle.std.proofs.Common.{◌≡◌, ℕ, ◌<◌, ◌≤◌, true, false, List, length, lt-ltb, le-leb}
use Rattle.targets.specs.At.{fits_here, name_here}
use Rattle.targets.specs.Ways.{is_whole, name_of}
use Rattle.instruction.proofs.Ands.{both}
use Rattle.instruction.specs.declared.mode.Mode.{Mode}

module _ (mode : Mode) (image : List ℕ) (p : ℕ) where
  pub whole_name : p < length image → length image ≤ 65536 → fits_here image p ≡ true → name_here mode image p ≡ name_of mode image p
  unfolding name_of
  whole_name h s f = rw (both _ _ (both _ _ (lt-ltb p (length image) h) (le-leb (length image) 65536 s)) f)

  pub no_name : is_whole image p ≡ false → 65536 ≡ name_of mode image p
  unfolding name_of
  no_name e = rw e
