-- The number that stands in the bits of a field, and the field: the same but for a short offset, which is a signed byte. Document 01,
-- 'Forms': 'Fields, as the patterns in 000 place them'.
-- Assumes nothing.
use Rattle.std.specs.Prelude.{ℕ, ◌-◌, cond, ℤ, pos, negsuc, nat_lt}
use Rattle.instruction.specs.declared.kind.Kind.{Kind}
use Rattle.instruction.specs.declared.kind.Kind.TheVariants.{Absent, Immediate, Direct, Register, BitNumber, Page, Far, Short, Long}

-- the offset byte read as a number from -128 to 127
abbrev pub short_of : ℕ → ℤ
short_of n = cond (nat_lt n 128) (pos n) (negsuc (255 - n))

-- the operand that a pattern's number stands for
abbrev pub operand_of : Kind → ℕ → ℤ
operand_of Absent n = pos n
operand_of Immediate n = pos n
operand_of Direct n = pos n
operand_of Register n = pos n
operand_of BitNumber n = pos n
operand_of Page n = pos n
operand_of Far n = pos n
operand_of Short n = short_of n
operand_of Long n = pos n

-- the number that a field puts into the pattern: itself, and of a short offset below 0 its byte, 256 more
abbrev pub code_of : ℤ → ℕ
code_of (pos n) = n
code_of (negsuc n) = 255 - n
