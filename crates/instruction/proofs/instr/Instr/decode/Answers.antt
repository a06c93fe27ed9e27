-- What `Instr::decode` answers: the instruction made of the parts is the one whose parts they are.
-- Assumes nothing.
use Rattle.std.proofs.Common.{ap, ◌∙◌}
use Rattle.std.proofs.lemmas.Result.{err_from_is_err_and}
use Rattle.instruction.specs.Answer.{accepted}
use Rattle.instruction.proofs.Decoding.{found_whole, told_whole}
use Rattle.instruction.proofs.instr.Instr.decode.Goals as goal

pub returns-in_err-decode : goal.returns-in_err-decode
returns-in_err-decode c =
    let p = err_from_is_err_and c.from_residual.result c.from_residual.ensures.1 in
    rw (p.1, p.2) (told_whole c.args.bytes.now _ c.in_err-decode.ensures)

pub build-requires : goal.build-requires
build-requires c = (found_whole c.args.bytes.now c.in_ok-decode.field-0 c.in_ok-decode.ensures).small

pub returns : goal.returns
returns c = ap accepted c.build.ensures ∙ (found_whole c.args.bytes.now c.in_ok-decode.field-0 c.in_ok-decode.ensures).whole
