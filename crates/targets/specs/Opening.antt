-- Of inner functions: what the first byte at a position says. Document 01, 'Targets' and 'Marks and steps'.
-- Assumes nothing.
use Rattle.std.specs.Prelude.{Result, Ok, Err, ℕ, ◌+◌, cond, ◌&&◌, List, length, nat_le, nat_lt}
use Rattle.instruction.specs.Decode.{cut_at}
use Rattle.instruction.specs.Flow.{flow_of}
use Rattle.targets.specs.At.{form_here, size_here, fits_here}
use Rattle.targets.specs.declared.opening.Opening.{Opening}
use Rattle.targets.specs.declared.not_whole.NotWhole.{NotWhole}
use Rattle.targets.specs.declared.not_whole.NotWhole.TheVariants.{Cut, Outside}

unfoldable pub opening_of : List ℕ → ℕ → Result Opening NotWhole
opening_of image p =
    cond (nat_lt p (length image) && nat_le (length image) 65536)
    (cond (fits_here image p) (Ok (record { next = p + size_here image p; flow = flow_of (form_here image p) })) (Err (Cut (cut_at image p))))
    (Err Outside)
