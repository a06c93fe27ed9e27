-- The targets of an instruction. Document 01, 'Targets', and refusals 14 and 7 of 'Numbers given when a call says no'; document 02, W7: in
-- wrapping mode a short target and next, as a target, are taken modulo 65,536.
-- Assumes nothing.
use Rattle.std.specs.Prelude.{Result, Ok, Err, ℕ, ◌+◌, ◌-◌, ◌*◌, ◌/◌, ◌%◌, cond, List, [], ◌∷◌, ℤ, pos, ◌+ℤ◌, nat_lt, unsigned_abs}
use Rattle.instruction.specs.Answer.{Answer, accepted, refused, refuse, judge}
use Rattle.instruction.specs.Kinds.{kind_at, is_given}
use Rattle.instruction.specs.declared.kind.Kind.{Kind}
use Rattle.instruction.specs.declared.kind.Kind.TheVariants.{Absent, Immediate, Direct, Register, BitNumber, Page, Far, Short, Long}
use Rattle.instruction.specs.declared.kind.Shape.{Shape}
use Rattle.instruction.specs.Encode.{form_in, misfits}
use Rattle.instruction.specs.ResolveOperand.{wrapped, misfit_values}
use Rattle.instruction.specs.Flow.{flow_of}
use Rattle.instruction.specs.Forms.{size_of}
use Rattle.instruction.specs.Parts.{parts_of}
use Rattle.instruction.specs.declared.flow.Flow.{Flow}
use Rattle.instruction.specs.declared.flow.Flow.TheVariants.{Stop, Next, Jump, Branch}
use Rattle.instruction.specs.declared.instr.Instr.{Instr}
use Rattle.instruction.specs.declared.mode.Mode.{Mode}
use Rattle.instruction.specs.declared.mode.Mode.TheVariants.{Unwrapped, Wrapping}
use Rattle.targets.specs.declared.target.Targets.{Targets}
use Rattle.targets.specs.declared.target.Targets.TheVariants.{Nowhere, One, Two}
use Rattle.targets.specs.declared.target.TargetsError.{TargetsError}
use Rattle.targets.specs.declared.target.TargetsError.TheVariants.{PastEnd, Unfit}

-- next = position + size
abbrev pub next_of : ℕ → Instr → ℕ
next_of position i = position + size_of (form_in i)

-- a target as the mode takes it: unwrapped as it is, wrapping modulo 65,536
abbrev pub in_mode : Mode → ℤ → ℤ
in_mode Unwrapped z = z
in_mode Wrapping z = pos (wrapped z)

-- the address that an operand names. Short: next + offset, in the mode. Brf, Callr: (next - 1 + offset) modulo 65,536. Jmp, Call: next's
-- bits 12-15 with the 12-bit field. Jmpf, Callf: the field
unfoldable pub address_of : Mode → ℕ → Kind → ℤ → ℤ
address_of mode next Absent z = z
address_of mode next Immediate z = z
address_of mode next Direct z = z
address_of mode next Register z = z
address_of mode next BitNumber z = z
address_of mode next Short z = in_mode mode (pos next +ℤ z)
address_of mode next Long z = pos ((next - 1 + unsigned_abs z) % 65536)
address_of mode next Page z = pos (next / 4096 % 16 * 4096 + unsigned_abs z)
address_of mode next Far z = z

-- of what is told of three operands, that of the last which a shape has
abbrev pub last_of : {A : Type 0} → Shape → A → A → A → A
last_of s a b c = cond (is_given (kind_at s 2)) c (cond (is_given (kind_at s 1)) b a)

-- the address that an instruction names: its last operand's
unfoldable pub address_in : Mode → ℕ → Instr → ℤ
address_in mode next i =
    let k : ℕ → Kind = kind_at (form_in i).shape in
    last_of (form_in i).shape (address_of mode next (k 0) (parts_of i).a) (address_of mode next (k 1) (parts_of i).b)
    (address_of mode next (k 2) (parts_of i).c)

-- Ret and Reti have no target; a jump has the one above; a conditional branch or a call has that one, then next; all others have next
abbrev pub by_flow : Flow → ℤ → ℤ → List ℤ
by_flow Stop t n = []
by_flow Next t n = n ∷ []
by_flow Jump t n = t ∷ []
by_flow Branch t n = t ∷ n ∷ []

unfoldable pub targets_in : Mode → ℕ → Instr → List ℤ
targets_in mode next i = by_flow (flow_of (parts_of i).form) (address_in mode next i) (in_mode mode (pos next))

-- the number and values of each answer
abbrev pub targets_named : Targets → List ℤ
targets_named Nowhere = []
targets_named (One a) = a ∷ []
targets_named (Two a b) = a ∷ b ∷ []

abbrev pub targets_of : Result Targets TargetsError → Answer (List ℤ)
targets_of (Ok t) = accepted (targets_named t)
targets_of (Err (PastEnd n)) = refused 14 (pos n ∷ [])
targets_of (Err (Unfit m)) = refused 7 (misfit_values m)

-- next over 65,536: 14; then a field out of encode's range: 7
unfoldable pub targets_answer : Mode → ℕ → Instr → Answer (List ℤ)
targets_answer mode position i =
    judge (refuse (nat_lt 65536 (next_of position i)) 14 (pos (next_of position i) ∷ []) ∷ misfits i) (targets_in mode (next_of position i) i)
