-- The position that one operand names, asked for alone. Document 01, 'Targets'.
-- Assumes nothing.
use Rattle.std.specs.Prelude.{ℕ, Bool, cond, ◌||◌, ℤ, ◌==◌, nat_lt}
use Rattle.instruction.specs.Range.{unfit}
use Rattle.instruction.specs.declared.kind.Kind.{Kind}
use Rattle.instruction.specs.declared.mode.Mode.{Mode}
use Rattle.targets.specs.At.{place_of}
use Rattle.targets.specs.Targets.{address_of}

-- no instruction ends at 0 or past 65,536, or the number does not fit its field
abbrev pub names_none : ℕ → Kind → ℤ → Bool
names_none next k z = next == 0 || (nat_lt 65536 next || unfit k z)

-- of an operand of a kind with a number, of an instruction that ends at next; 65,536 is outside every image
unfoldable pub operand_place : Mode → ℕ → Kind → ℤ → ℕ
operand_place mode next k z = cond (names_none next k z) 65536 (place_of (address_of mode next k z))
