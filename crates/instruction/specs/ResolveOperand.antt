-- What numbers as written become. Document 01, 'Resolving operands': plain numbers and a base in, fields out, by refusals 14, 7, 8, 9 and 10.
-- Document 02, W7: in wrapping mode the difference of a short branch is brought to -32,768..32,767 modulo 65,536 before the range check.
-- Assumes nothing.
use Rattle.std.specs.Prelude.{Result, Ok, Err, ℕ, ◌-◌, ◌/◌, ◌%◌, Bool, cond, not, List, [], ◌∷◌, ◌++◌, ℤ, pos, negsuc, ◌+ℤ◌, ◌-ℤ◌, ◌==◌, nat_lt, unsigned_abs}
use Rattle.instruction.specs.Answer.{Answer, accepted, refused, Refusal, refuse, judge}
use Rattle.instruction.specs.Range.{outside}
use Rattle.instruction.specs.declared.answer.Misfit.{Misfit}
use Rattle.instruction.specs.declared.kind.Kind.{Kind}
use Rattle.instruction.specs.declared.kind.Kind.TheVariants.{Absent, Immediate, Direct, Register, BitNumber, Page, Far, Short, Long}
use Rattle.instruction.specs.declared.kind.Kinds.{Kinds}
use Rattle.instruction.specs.declared.layout.Fields.{Fields}
use Rattle.instruction.specs.declared.mode.Mode.{Mode}
use Rattle.instruction.specs.declared.mode.Mode.TheVariants.{Unwrapped, Wrapping}
use Rattle.instruction.specs.declared.resolve_operand.ResolveError.{ResolveError}
use Rattle.instruction.specs.declared.resolve_operand.ResolveError.TheVariants.{FarBase, Operand}
use Rattle.instruction.specs.declared.resolve_operand.OperandError.{OperandError}
use Rattle.instruction.specs.declared.resolve_operand.OperandError.TheVariants.{Unfit, NoAddress, TooFar, OtherPage}

-- not an address, 0 to 65,535
abbrev pub no_address : ℤ → Bool
no_address z = outside (pos 0) (pos 65535) z

-- the top four bits of a 16-bit number
abbrev pub top : ℕ → ℕ
top n = n / 4096 % 16

-- a number modulo 65,536
abbrev pub wrapped : ℤ → ℕ
wrapped (pos n) = n % 65536
wrapped (negsuc n) = 65535 - n % 65536

-- the number from -32,768 to 32,767 that is the same modulo 65,536
abbrev pub nearest : ℤ → ℤ
nearest z = cond (nat_lt (wrapped z) 32768) (pos (wrapped z)) (pos (wrapped z) -ℤ pos 65536)

-- how far the address z lies from the base
abbrev pub difference : Mode → ℤ → ℕ → ℤ
difference Unwrapped z base = z -ℤ pos base
difference Wrapping z base = nearest (z -ℤ pos base)

-- the refusals of operand n, of a kind, for the number z and the base
unfoldable pub operand_refusals : Mode → ℕ → ℕ → Kind → ℤ → List Refusal
operand_refusals mode base n Absent z = []
operand_refusals mode base n Immediate z = refuse (outside (pos 0) (pos 255) z) 7 (pos n ∷ z ∷ []) ∷ []
operand_refusals mode base n Direct z = refuse (outside (pos 0) (pos 511) z) 7 (pos n ∷ z ∷ []) ∷ []
operand_refusals mode base n BitNumber z = refuse (outside (pos 0) (pos 7) z) 7 (pos n ∷ z ∷ []) ∷ []
operand_refusals mode base n Register z = refuse (outside (pos 0) (pos 3) z) 7 (pos n ∷ z ∷ []) ∷ []
operand_refusals mode base n Far z = refuse (no_address z) 7 (pos n ∷ z ∷ []) ∷ []
operand_refusals mode base n Page z =
    refuse (no_address z) 7 (pos n ∷ z ∷ [])
    ∷ refuse (not (top (unsigned_abs z) == top base)) 10 (pos (top base) ∷ pos (top (unsigned_abs z)) ∷ [])
    ∷ []
operand_refusals mode base n Short z =
    refuse (no_address z) 8 (z ∷ [])
    ∷ refuse (outside (negsuc 127) (pos 127) (difference mode z base)) 9 (difference mode z base ∷ [])
    ∷ []
operand_refusals mode base n Long z = refuse (no_address z) 8 (z ∷ []) ∷ []

-- the field of an operand
unfoldable pub field_of : Mode → ℕ → Kind → ℤ → ℤ
field_of mode base Absent z = z
field_of mode base Immediate z = z
field_of mode base Direct z = z
field_of mode base BitNumber z = z
field_of mode base Register z = z
field_of mode base Far z = z
field_of mode base Page z = pos (unsigned_abs z % 4096)
field_of mode base Short z = difference mode z base
field_of mode base Long z = pos (wrapped ((z -ℤ pos base) +ℤ pos 1))

-- the values of refusal 7: operand from 1 in the order shown, value
abbrev pub misfit_values : Misfit → List ℤ
misfit_values m = pos m.operand ∷ m.value ∷ []

-- the number and values of each answer
abbrev pub why_of : {A : Type 0} → OperandError → Answer A
why_of (Unfit m) = refused 7 (misfit_values m)
why_of (NoAddress z) = refused 8 (z ∷ [])
why_of (TooFar z) = refused 9 (z ∷ [])
why_of (OtherPage t) = refused 10 (pos t.base ∷ pos t.address ∷ [])

abbrev pub resolve_refused : {A : Type 0} → ResolveError → Answer A
resolve_refused (FarBase b) = refused 14 (pos b ∷ [])
resolve_refused (Operand w) = why_of w

abbrev pub operand_answer : Result ℤ OperandError → Answer ℤ
operand_answer (Ok z) = accepted z
operand_answer (Err w) = why_of w

abbrev pub resolution_of : Result Fields ResolveError → Answer Fields
resolution_of (Ok f) = accepted f
resolution_of (Err e) = resolve_refused e

-- a base above 65,536: 14; then the operands as written, the first failure named
abbrev pub refusals : Mode → Kinds → ℤ → ℤ → ℤ → ℕ → List Refusal
refusals mode k a b c base =
    refuse (nat_lt 65536 base) 14 (pos base ∷ [])
    ∷ (operand_refusals mode base 1 k.a a ++ (operand_refusals mode base 2 k.b b ++ operand_refusals mode base 3 k.c c))

unfoldable pub fields_answer : Mode → Kinds → ℤ → ℤ → ℤ → ℕ → Answer Fields
fields_answer mode k a b c base =
    judge (refusals mode k a b c base) (record { a = field_of mode base k.a a; b = field_of mode base k.b b; c = field_of mode base k.c c })
