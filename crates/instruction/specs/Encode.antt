-- What encode answers and writes. Document 01, 'Resolving operands' (the ranges of fields) and refusals 7 and 11, in this order.
-- Assumes nothing.
use Rattle.std.specs.Prelude.{Result, Ok, Err, ℕ, List, [], ◌∷◌, ◌++◌, length, drop, pos, nat_lt}
use Rattle.instruction.specs.Answer.{Answer, accepted, refused, Refusal, refuse, judge, after}
use Rattle.instruction.specs.Forms.{Form, form_at, bits, size_of}
use Rattle.instruction.specs.Kinds.{kind_at}
use Rattle.instruction.specs.Range.{unfit}
use Rattle.instruction.specs.Parts.{parts_of}
use Rattle.instruction.specs.Code.{code_of}
use Rattle.instruction.specs.Pattern.{filled}
use Rattle.instruction.specs.ResolveOperand.{misfit_values}
use Rattle.instruction.specs.declared.answer.Misfit.{Misfit}
use Rattle.instruction.specs.declared.encode.EncodeError.{EncodeError}
use Rattle.instruction.specs.declared.encode.EncodeError.TheVariants.{Unfit, NoRoom}
use Rattle.instruction.specs.declared.instr.Instr.{Instr}

-- the form of an instruction
abbrev pub form_in : Instr → Form
form_in i = form_at (parts_of i).form

-- refusal 7: operand from 1 in the order shown, value
abbrev pub misfits : Instr → List Refusal
misfits i =
    refuse (unfit (kind_at (form_in i).shape 0) (parts_of i).a) 7 (pos 1 ∷ (parts_of i).a ∷ [])
    ∷ refuse (unfit (kind_at (form_in i).shape 1) (parts_of i).b) 7 (pos 2 ∷ (parts_of i).b ∷ [])
    ∷ refuse (unfit (kind_at (form_in i).shape 2) (parts_of i).c) 7 (pos 3 ∷ (parts_of i).c ∷ [])
    ∷ []

-- ---- whether every field is in its range

abbrev pub fit_of : Result (Unit {0}) Misfit → Answer (Unit {0})
fit_of (Ok u) = accepted tt
fit_of (Err m) = refused 7 (misfit_values m)

unfoldable pub fit_answer : Instr → Answer (Unit {0})
fit_answer i = judge (misfits i) tt

-- ---- encode

-- the bytes of the pattern
unfoldable pub instr_bytes : Instr → List ℕ
instr_bytes i = filled (bits (form_in i)) (code_of (parts_of i).a ∷ code_of (parts_of i).b ∷ code_of (parts_of i).c ∷ [])

abbrev pub encoded_of : Result ℕ EncodeError → Answer ℕ
encoded_of (Ok n) = accepted n
encoded_of (Err (Unfit m)) = refused 7 (misfit_values m)
encoded_of (Err (NoRoom n)) = refused 11 (pos n ∷ [])

-- the number of bytes written
unfoldable pub encode_answer : Instr → List ℕ → Answer ℕ
encode_answer i room =
    judge (misfits i ++ refuse (nat_lt (length room) (size_of (form_in i))) 11 (pos (size_of (form_in i)) ∷ []) ∷ []) (size_of (form_in i))

-- the room afterwards: the bytes, and the rest as it was
unfoldable pub encode_room : Instr → List ℕ → List ℕ
encode_room i room = after (encode_answer i room) (instr_bytes i ++ drop (size_of (form_in i)) room) room
