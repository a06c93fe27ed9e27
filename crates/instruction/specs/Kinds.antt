-- The kinds of a form's operands, in the order shown. Document 01, 'Forms' and 'Resolving operands'; the order is that of source
-- document 000, where it writes an instruction out.
-- Assumes nothing.
use Rattle.std.specs.Prelude.{ℕ, Bool, true, false, List, [], ◌∷◌, slice_index_or}
use Rattle.instruction.specs.declared.kind.Kind.{Kind}
use Rattle.instruction.specs.declared.kind.Kind.TheVariants.{Absent, Immediate, Direct, Register, BitNumber, Page, Far, Short, Long}
use Rattle.instruction.specs.declared.kind.Kinds.{Kinds}
use Rattle.instruction.specs.declared.kind.Shape.{Shape}
use Rattle.instruction.specs.declared.kind.Shape.TheVariants.{Bare, Imm, D9, Ri, ImmD9, ImmRi, D9B3, A12, A16, R16, R8, D9B3R8, D9R8, RiR8, ImmR8}
use Rattle.instruction.specs.declared.kind.Shape.TheVariants.{RiImmR8}

unfoldable pub kinds_of : Shape → List Kind
kinds_of Bare = []
kinds_of Imm = Immediate ∷ []
kinds_of D9 = Direct ∷ []
kinds_of Ri = Register ∷ []
kinds_of ImmD9 = Immediate ∷ Direct ∷ []
kinds_of ImmRi = Immediate ∷ Register ∷ []
kinds_of D9B3 = Direct ∷ BitNumber ∷ []
kinds_of A12 = Page ∷ []
kinds_of A16 = Far ∷ []
kinds_of R16 = Long ∷ []
kinds_of R8 = Short ∷ []
kinds_of D9B3R8 = Direct ∷ BitNumber ∷ Short ∷ []
kinds_of D9R8 = Direct ∷ Short ∷ []
kinds_of RiR8 = Register ∷ Short ∷ []
kinds_of ImmR8 = Immediate ∷ Short ∷ []
kinds_of RiImmR8 = Register ∷ Immediate ∷ Short ∷ []

-- the kind of operand i, from 0
abbrev pub kind_at : Shape → ℕ → Kind
kind_at s i = slice_index_or (kinds_of s) i Absent

abbrev pub three_of : Shape → Kinds
three_of s = record { a = kind_at s 0; b = kind_at s 1; c = kind_at s 2 }

-- there is an operand
abbrev pub is_given : Kind → Bool
is_given Absent = false
is_given Immediate = true
is_given Direct = true
is_given Register = true
is_given BitNumber = true
is_given Short = true
is_given Long = true
is_given Page = true
is_given Far = true
