-- An instruction's values are those of its parts.
-- Assumes nothing.
use Rattle.std.proofs.Common.{◌≡◌, refl, ap, ◌∙◌, Result, Ok, Err}
use Rattle.instruction.specs.Answer.{Answer, accepted, refused, on_accepted}
use Rattle.instruction.specs.Decode.{decode_answer, parts_answer, decode_refused, decoded_parts_of}
use Rattle.instruction.specs.Parts.{parts_of}
use Rattle.instruction.specs.declared.instr.Instr.{Instr}
use Rattle.instruction.specs.declared.instr.Parts.{Parts}
use Rattle.instruction.specs.declared.decode.DecodeError.{DecodeError}
use Rattle.instruction.specs.declared.decode.DecodeError.TheVariants.{Nothing, Cut}
use Rattle.c_answers.specs.Reply.{reply, reply_of, of_result, no_values}
use Rattle.c_answers.specs.Codec.{instr_values, parts_values}
use Rattle.c_answers.proofs.codec.decode.Goals as goal

told_parts : (r : Result Parts DecodeError) → of_result (λ v. reply 0 (parts_values v)) (λ e. reply_of no_values (decode_refused e)) r
    ≡ reply_of parts_values (decoded_parts_of r)
told_parts (Ok v) = refl
told_parts (Err Nothing) = refl
told_parts (Err (Cut c)) = refl

of_parts : (x : Answer Instr) → reply_of parts_values (on_accepted parts_of x) ≡ reply_of instr_values x
of_parts (accepted i) = refl
of_parts (refused n vs) = refl

pub returns : goal.returns
unfolding parts_answer
returns c =
    c.into_reply.ensures ∙ told_parts c.decode.result ∙ ap (reply_of parts_values) c.decode.ensures ∙ of_parts (decode_answer c.args.bytes.now)
