-- The numbers of forms by size, counted.
-- Assumes nothing.
use mathlib.Core.Path.{refl}
use Rattle.instruction.specs.Forms.{forms}
use Rattle.instruction.specs.Pattern.{pattern, pattern_bytes, onto, bits_given, next_bracket}
use Rattle.instruction_laws.specs.Sizes.{Sizes}

pub sizes : Sizes
unfolding forms pattern pattern_bytes onto bits_given next_bracket
sizes = record { all = refl; one = refl; two = refl; three = refl }
