-- Decode and encode undo each other. Document 01, 'Forms' ('Fields, as the patterns in 000 place them') and 'Resolving operands' ('Encode
-- itself takes fields').
-- Assumes nothing.
use Rattle.std.specs.Prelude.{ℕ, ◌≤◌, List, ◌++◌, ◌≡◌, length, take, drop}
use Rattle.instruction.specs.Answer.{accepted}
use Rattle.instruction.specs.Bytes.{Bytes}
use Rattle.instruction.specs.Decode.{decode_answer}
use Rattle.instruction.specs.Encode.{form_in, fit_answer, instr_bytes, encode_answer, encode_room}
use Rattle.instruction.specs.Forms.{size_of}
use Rattle.instruction.specs.declared.instr.Instr.{Instr}

-- the bytes of an instruction: as many as its form has
pub record Encoding (i : Instr) : Type 0 where
  pub size : length (instr_bytes i) ≡ size_of (form_in i)
  pub small : Bytes (instr_bytes i)

abbrev pub EncodedBytes : Type 0
EncodedBytes = (i : Instr) → Encoding i

-- an instruction stands at the beginning of a byte string: its fields are in range, and encode writes the bytes consumed into any room
-- that is long enough, whose rest stays
pub record Stands (i : Instr) (s : List ℕ) : Type 0 where
  pub size : size_of (form_in i) ≤ length s
  pub fit : fit_answer i ≡ accepted tt
  pub bytes : instr_bytes i ≡ take (size_of (form_in i)) s
  pub answer : (room : List ℕ) → size_of (form_in i) ≤ length room → encode_answer i room ≡ accepted (size_of (form_in i))
  pub written : (room : List ℕ) → size_of (form_in i) ≤ length room → encode_room i room ≡ take (size_of (form_in i)) s ++ drop (size_of (form_in i)) room

-- encode after decode gives the bytes back
abbrev pub EncodeDecoded : Type 0
EncodeDecoded = (s : List ℕ) → Bytes s → (i : Instr) → decode_answer s ≡ accepted i → Stands i s

-- decode after encode gives the instruction back, whatever follows
abbrev pub DecodeEncoded : Type 0
DecodeEncoded = (i : Instr) → fit_answer i ≡ accepted tt → (rest : List ℕ) → Bytes rest → decode_answer (instr_bytes i ++ rest) ≡ accepted i
