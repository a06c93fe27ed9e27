-- Which positions of an image are reachable. Document 01, 'Targets' and 'Marks and steps'; document 02, W8 and W13.
-- Assumes nothing.
use Rattle.std.specs.Prelude.{ℕ, cond, List, [], length, replicate}
use Rattle.instruction.specs.declared.mode.Mode.{Mode}
use Rattle.targets.specs.At.{ways_here, flash_here}
use Rattle.reach.specs.Mark.{untouched}
use Rattle.reach.specs.Pins.{pin}
use Rattle.reach.specs.Reach.{Reach}
use Rattle.marks.specs.Tracer.{tracer_of}

-- no mark but the pinned positions
abbrev pub only_pins : List ℕ → List ℕ → List ℕ
only_pins image pins = pin (length image) pins (replicate (length image) untouched)

-- p is reachable from these entries: an entry inside the image, or a target inside the image of a reachable position whose instruction fits,
-- and not pinned. Every Jmpf is followed
abbrev pub Reachable : Mode → List ℕ → List ℕ → List ℕ → ℕ → Type 0
Reachable mode image entries pins p = Reach (tracer_of mode image) (ways_here mode image) (only_pins image pins) entries p

-- the targets of p where no Jmpf with B8 0D in the two bytes before it is followed, whatever is traced
abbrev pub unfollowed : Mode → List ℕ → ℕ → List ℕ
unfollowed mode image p = cond (flash_here image p) [] (ways_here mode image p)

-- p is reachable in any case: also where no such Jmpf is followed
abbrev pub SurelyReachable : Mode → List ℕ → List ℕ → List ℕ → ℕ → Type 0
SurelyReachable mode image entries pins p = Reach (tracer_of mode image) (unfollowed mode image) (only_pins image pins) entries p
