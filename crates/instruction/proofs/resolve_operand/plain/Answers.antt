-- What `plain` answers.
-- Assumes nothing.
use Rattle.std.proofs.lemmas.Result.{err_from_is_err_and}
use Rattle.instruction.proofs.Resolving.{plain_no, plain_is, told}
use Rattle.instruction.proofs.Sign.{back}
use Rattle.instruction.proofs.resolve_operand.plain.Goals as goal

pub returns-in_err-held : goal.returns-in_err-held
returns-in_err-held c =
    let p = err_from_is_err_and c.from_residual.result c.from_residual.ensures.1 in
    let e = rw (back c.ranges.z) at c.in_err-held.ensures in
    rw (p.1, p.2) (told e.1 (plain_no c.args.kind c.args.n c.args.z e.0))

pub returns : goal.returns
returns c =
    let e = rw (back c.ranges.z) at c.in_ok-held.ensures in
    rw (e.1, back c.ranges.z) (plain_is c.args.kind c.args.n c.args.z e.0)
