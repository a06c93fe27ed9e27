-- The definitions of the answers' numbers and values tell all cases apart: each is undone by a reading of the number and the values.
-- Assumes nothing.
use mathlib.Core.Path.{◌≡◌, refl}
use mathlib.Core.Bool.{cond}
use Prim.Native.Nat.{ℕ}
use lib.Dec.{eqb}
use Rattle.instruction.specs.Answer.{Answer, accepted, refused}
use Rattle.instruction.specs.Decode.{decoded_of, decoded_parts_of}
use Rattle.instruction.specs.Encode.{encoded_of, fit_of}
use Rattle.instruction.specs.declared.answer.Misfit.{Misfit}
use Rattle.instruction.specs.declared.decode.DecodeError.{DecodeError}
use Rattle.instruction.specs.declared.decode.DecodeError.TheVariants.{Nothing, Cut}
use Rattle.instruction.specs.declared.encode.EncodeError.{EncodeError}
use Rattle.instruction.specs.declared.encode.EncodeError.TheVariants.{Unfit, NoRoom}
use Rattle.std.specs.Prelude.{Result, Ok, Err}
use Rattle.instruction.specs.declared.instr.Instr.{Instr}
use Rattle.instruction.specs.declared.instr.Parts.{Parts}
use Rattle.instruction_laws.specs.Apart.{AnswersApart}
use Rattle.instruction_laws.proofs.ResolvedApart.{resolved_apart, resolution_apart}
use Rattle.instruction_laws.proofs.Undone.{undone, number_at, cut, misfit}

abbrev decoded : {A : Type 0} → Answer A → Result A DecodeError
decoded (accepted i) = Ok i
decoded (refused n vs) = Err (cond (eqb n 12) Nothing (Cut (cut vs)))

decode : (r : Result Instr DecodeError) → decoded (decoded_of r) ≡ r
decode (Ok i) = refl
decode (Err Nothing) = refl
decode (Err (Cut c)) = refl

decode_parts : (r : Result Parts DecodeError) → decoded (decoded_parts_of r) ≡ r
decode_parts (Ok v) = refl
decode_parts (Err Nothing) = refl
decode_parts (Err (Cut c)) = refl

abbrev fitted : Answer (Unit {0}) → Result (Unit {0}) Misfit
fitted (accepted u) = Ok u
fitted (refused n vs) = Err (misfit vs)

fit : (r : Result (Unit {0}) Misfit) → fitted (fit_of r) ≡ r
fit (Ok u) = refl
fit (Err m) = refl

abbrev encoded : Answer ℕ → Result ℕ EncodeError
encoded (accepted n) = Ok n
encoded (refused n vs) = Err (cond (eqb n 7) (Unfit (misfit vs)) (NoRoom (number_at vs 0)))

encode : (r : Result ℕ EncodeError) → encoded (encoded_of r) ≡ r
encode (Ok n) = refl
encode (Err (Unfit m)) = refl
encode (Err (NoRoom n)) = refl

pub answers_apart : AnswersApart
answers_apart =
    record {
      decode = undone decoded_of decoded decode;
      decode_parts = undone decoded_parts_of decoded decode_parts;
      fit = undone fit_of fitted fit;
      encode = undone encoded_of encoded encode;
      resolve = resolved_apart;
      operands = resolution_apart;
    }
