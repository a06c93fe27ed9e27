-- The operands of an `I` line. Document 01, 'The listing': one field per operand as shown in 000: immediate `#` and two hex digits, d9
-- three, Ri `@R` and digit, bit a digit, target four digits, or `?` if not 0-65,535.
-- Assumes nothing.
use Rattle.std.specs.Prelude.{ℕ, cond, List, [], ◌∷◌, ltb, ℤ, nat_abs}
use Prim.Native.Char.{code}
use Rattle.instruction.specs.Answer.{Answer, accepted, refused}
use Rattle.instruction.specs.Kinds.{kinds_of, is_given}
use Rattle.instruction.specs.declared.kind.Kind.{Kind}
use Rattle.instruction.specs.declared.kind.Kind.TheVariants.{Absent, Immediate, Direct, Register, BitNumber, Page, Far, Short, Long}
use Rattle.instruction.specs.Encode.{form_in}
use Rattle.instruction.specs.Parts.{parts_of}
use Rattle.instruction.specs.declared.instr.Instr.{Instr}
use Rattle.instruction.specs.declared.mode.Mode.{Mode}
use Rattle.targets.specs.At.{place_of}
use Rattle.targets.specs.Targets.{targets_answer}
use Rattle.listing.specs.Hex.{hex1, hex2, hex3, hex4}

-- a target by its position: 65,536 and more are outside memory, and so is what lies below 0
unfoldable pub target : ℕ → List ℕ
target t = cond (ltb 65535 t) (code "?" ∷ []) (hex4 t)

-- an operand of a kind with the number n, of an instruction whose first target is t
unfoldable pub shown : ℕ → Kind → ℕ → List ℕ
shown t Absent n = []
shown t Immediate n = code "#" ∷ hex2 n
shown t Direct n = hex3 n
shown t Register n = code "@" ∷ code "R" ∷ hex1 n ∷ []
shown t BitNumber n = hex1 n ∷ []
shown t Page n = target t
shown t Far n = target t
shown t Short n = target t
shown t Long n = target t

-- a field for each kind, in the order shown
abbrev pub shown_all : ℕ → List Kind → List ℕ → List (List ℕ)
shown_all t [] ns = []
shown_all t (k ∷ ks) [] = []
shown_all t (k ∷ ks) (n ∷ ns) = shown t k n ∷ shown_all t ks ns

-- by the operands' numbers, of which those that are shown are not below 0
unfoldable pub operands_by : ℕ → Instr → List (List ℕ)
operands_by t i = shown_all t (kinds_of (form_in i).shape) (nat_abs (parts_of i).a ∷ nat_abs (parts_of i).b ∷ nat_abs (parts_of i).c ∷ [])

-- the position of the first target, which is the one that a jump, a branch or a call names
abbrev pub first_of : Answer (List ℤ) → ℕ
first_of (accepted []) = 65536
first_of (accepted (t ∷ ts)) = place_of t
first_of (refused n vs) = 65536

-- of the instruction i at p
abbrev pub operands : Mode → ℕ → Instr → List (List ℕ)
operands mode p i = operands_by (first_of (targets_answer mode p i)) i

-- of an inner function: a tab and the operand, if there is one
abbrev pub shown_field : ℕ → Kind → ℕ → List ℕ
shown_field t k n = cond (is_given k) (9 ∷ shown t k n) []
