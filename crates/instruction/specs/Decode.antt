-- What decode answers. Document 01, 'Forms', and refusals 12 and 5 of 'Numbers given when a call says no'.
-- Assumes nothing.
use Rattle.std.specs.Prelude.{Result, Ok, Err, ℕ, ◌-◌, List, [], ◌∷◌, length, ℤ, pos, ◌==◌, nat_lt, slice_index}
use Rattle.instruction.specs.Answer.{Answer, accepted, refused, refuse, judge, on_accepted}
use Rattle.instruction.specs.CutOff.{cut_values}
use Rattle.instruction.specs.Forms.{form_at, form_of, bits, size_of}
use Rattle.instruction.specs.Kinds.{kind_at}
use Rattle.instruction.specs.Parts.{made_of, parts_of}
use Rattle.instruction.specs.Code.{operand_of}
use Rattle.instruction.specs.Pattern.{field}
use Rattle.instruction.specs.declared.answer.CutOff.{CutOff}
use Rattle.instruction.specs.declared.decode.DecodeError.{DecodeError}
use Rattle.instruction.specs.declared.decode.DecodeError.TheVariants.{Nothing, Cut}
use Rattle.instruction.specs.declared.instr.Instr.{Instr}
use Rattle.instruction.specs.declared.instr.Parts.{Parts}

-- operand l of the form k in a byte string
abbrev pub operand_in : ℕ → List ℕ → ℕ → ℤ
operand_in k s l = operand_of (kind_at (form_at k).shape l) (field l (bits (form_at k)) s 0)

-- the fields that the pattern of the form k reads
unfoldable pub fields_in : ℕ → List ℕ → Parts
fields_in k s = record { form = k; a = operand_in k s 0; b = operand_in k s 1; c = operand_in k s 2 }

-- what refusal 5 tells of the instruction at p: of the form whose pattern matches, the size less what is left from p on is missing.
-- Document 02, W2
unfoldable pub cut_at : List ℕ → ℕ → CutOff
cut_at s p = record { position = p; first = slice_index s p; missing = size_of (form_at (form_of (slice_index s p))) - (length s - p) }

-- the number and values of each refusal
abbrev pub decode_refused : {A : Type 0} → DecodeError → Answer A
decode_refused Nothing = refused 12 (pos 0 ∷ [])
decode_refused (Cut c) = refused 5 (cut_values c)

abbrev pub decoded_of : Result Instr DecodeError → Answer Instr
decoded_of (Ok i) = accepted i
decoded_of (Err e) = decode_refused e

-- nothing: 12; cut off by the end: 5, with position 0; else the instruction of the form whose pattern matches
unfoldable pub decode_answer : List ℕ → Answer Instr
decode_answer s =
    let k : ℕ = form_of (slice_index s 0) in
    judge
    (refuse (length s == 0) 12 (pos 0 ∷ [])
    ∷ refuse (nat_lt (length s) (size_of (form_at k))) 5 (cut_values (cut_at s 0))
    ∷ [])
    (made_of (fields_in k s))

-- ---- the parts of the instruction

abbrev pub decoded_parts_of : Result Parts DecodeError → Answer Parts
decoded_parts_of (Ok v) = accepted v
decoded_parts_of (Err e) = decode_refused e

-- what decode answers, with its instruction taken apart
unfoldable pub parts_answer : List ℕ → Answer Parts
parts_answer s = on_accepted parts_of (decode_answer s)
