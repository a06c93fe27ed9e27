-- The loop of `mask::write_mask` has written the front of the mask, and the code so far ends where it says.
-- Assumes nothing.
use Rattle.std.proofs.Common.{◌≡◌, ◌++◌, take, drop}
use Rattle.views.specs.Mask.{mask_of}
use Rattle.views.proofs.Masking.{Masks}
use Rattle.views.proofs.mask.write_mask.Given as goal

abbrev pub invariant-loop-p : goal.invariant-loop-p
invariant-loop-p l = Masks l.image l.marks l.p l.end × (l.mask ≡ take l.p (mask_of l.image l.marks) ++ drop l.p l.initial.mask)
