-- An arm each.
-- Assumes nothing.
use Rattle.std.proofs.Common.{◌≡◌, ℕ, [], List, ap, arith}
use Rattle.instruction.specs.Decode.{decode_refused, decode_answer, parts_answer}
use Rattle.instruction.specs.declared.decode.DecodeError.{DecodeError}
use Rattle.instruction.specs.declared.decode.DecodeError.TheVariants as decode
use Rattle.instruction.specs.declared.mode.Mode.{Mode}
use Rattle.instruction.proofs.Decoding.{found_whole, refused_whole}
use Rattle.text.proofs.Putting.{puts_as, puts_none}
use Rattle.listing.specs.Alone.{text_of}
use Rattle.listing.proofs.lines.put_instr.Goals as goal

none : (mode : Mode) (p : ℕ) (bytes : List ℕ) (e : DecodeError) → decode_refused e ≡ parts_answer bytes → [] ≡ text_of mode p bytes (decode_answer bytes)
none mode p bytes decode.Nothing e = ap (text_of mode p bytes) (refused_whole bytes _ _ e)
none mode p bytes (decode.Cut c) e = ap (text_of mode p bytes) (refused_whole bytes _ _ e)

pub returns-in-Ok : goal.returns-in-Ok
returns-in-Ok c =
    let a = c.args in
    record {
      puts = puts_as (ap (text_of a.mode a.p a.bytes.now) (found_whole a.bytes.now c.in-Ok.v c.in-Ok.ensures).whole) c.put_parts.ensures.puts;
      upper_bound = c.put_parts.ensures.upper_bound;
    }

pub returns-in-Err : goal.returns-in-Err
returns-in-Err c =
    let a = c.args in
    record { puts = puts_as (none a.mode a.p a.bytes.now c.in-Err.field-0 c.in-Err.ensures) (puts_none _ _); upper_bound = omega arith }
