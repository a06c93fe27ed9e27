-- The tracer of an image. Document 01, 'Targets' and 'Marks and steps'.
-- Assumes nothing.
use Rattle.std.specs.Prelude.{ℕ, ◌-◌, Bool, ◌&&◌, List, length, get_or}
use Rattle.instruction.specs.declared.mode.Mode.{Mode}
use Rattle.targets.specs.At.{fits_here, ways_here, flash_here}
use Rattle.reach.specs.Mark.{traced_mark}
use Rattle.reach.specs.Tracer.{Tracer}

-- the exception: such a Jmpf where p - 2 is traced
unfoldable pub exempt_here : List ℕ → List ℕ → ℕ → Bool
exempt_here image m p = flash_here image p && traced_mark (get_or m (p - 2) 0)

abbrev pub tracer_of : Mode → List ℕ → Tracer
tracer_of mode image =
    record { size = length image; fits = fits_here image; ways = ways_here mode image; exempt = exempt_here image }
