-- What can be taken up stands inside the image, and what is not whole does not fit. Assumes nothing.
use native.Mathlib.Omega.{arith}
use mathlib.Core.List.{List}
use Prim.Native.Nat.{ℕ, ◌+◌, ◌<◌, ◌≤◌}
use mathlib.Core.Path.{◌≡◌}
use mathlib.Core.Bool.{false}
use Rattle.std.specs.Prelude.{Err}
use Rattle.targets.specs.Ways.{ways_of}
use Rattle.targets.specs.declared.not_whole.NotWhole.{NotWhole}
use Rattle.targets.specs.declared.not_whole.NotWhole.TheVariants.{Cut, Outside}
use Rattle.targets.proofs.WaysAre.{goes_cut, never_outside}
use lib.Dec.{eqb}
use lib.ListN.{length, get_or}
use borrow.Author.Tests.{leb-true}
use Rattle.instruction.proofs.Ands.{second_part}
use Rattle.instruction.specs.declared.mode.Mode.{Mode}
use Rattle.targets.specs.At.{size_here, fits_here}
use Rattle.targets.proofs.Within.{Small, size_short}
use Rattle.reach.specs.Mark.{waiting}
use Rattle.reach.specs.Sweep.{can_take}
use Rattle.marks.specs.Tracer.{tracer_of}
use Rattle.sweep.specs.Way.{Between}

pub whole_image : (mode : Mode) (image m : List ℕ) → Small image → Between (tracer_of mode image) m 0 (length image)
unfolding can_take fits_here
whole_image mode image m b q e =
    let f = leb-true (q + size_here image q) (length image) (second_part (eqb (get_or m q 0) waiting) (fits_here image q) e) in
    (omega arith, omega (arith, f, (size_short image q b).0))

-- where no instruction is whole, it does not fit
pub not_fitting : (mode : Mode) (image : List ℕ) (p : ℕ) → p < length image → length image ≤ 65536 → (e : NotWhole) → Err e ≡ ways_of mode image p
    → fits_here image p ≡ false
not_fitting mode image p h l (Cut c) e = (goes_cut mode image p h l c e).0
not_fitting mode image p h l Outside e = absurd (never_outside mode image p h l e)
