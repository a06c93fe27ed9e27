-- Which numbers fit a field. Document 01, 'Resolving operands', its last sentence: the ranges of fields as encode takes them.
-- Assumes nothing.
use Rattle.std.specs.Prelude.{Bool, false, ◌||◌, ℤ, pos, negsuc, int_lt}
use Rattle.instruction.specs.declared.kind.Kind.{Kind}
use Rattle.instruction.specs.declared.kind.Kind.TheVariants.{Absent, Immediate, Direct, Register, BitNumber, Page, Far, Short, Long}

-- z is not from low to high
abbrev pub outside : ℤ → ℤ → ℤ → Bool
outside low high z = int_lt z low || int_lt high z

-- the number does not fit the field
unfoldable pub unfit : Kind → ℤ → Bool
unfit Absent z = false
unfit Immediate z = outside (pos 0) (pos 255) z
unfit Direct z = outside (pos 0) (pos 511) z
unfit Register z = outside (pos 0) (pos 3) z
unfit BitNumber z = outside (pos 0) (pos 7) z
unfit Page z = outside (pos 0) (pos 4095) z
unfit Far z = outside (pos 0) (pos 65535) z
unfit Short z = outside (negsuc 127) (pos 127) z
unfit Long z = outside (pos 0) (pos 65535) z
