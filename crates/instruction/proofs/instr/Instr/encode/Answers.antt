-- What `Instr::encode` answers, and its room afterwards: the definition's, by the tests that led there.
-- Assumes nothing.
use Rattle.std.proofs.Common.{◌≡◌, ℤ, w32, to_z, of_z}
use Rattle.std.proofs.lemmas.Result.{err_from_is_err_and}
use Rattle.instruction.proofs.Encoding.{refuses, written}
use Rattle.instruction.proofs.Known.{form_small}
use Rattle.instruction.proofs.instr.Instr.encode.Goals as goal

abbrev Read : ℤ → Type 0
Read z = to_z w32 (of_z w32 z) ≡ z

pub returns-in_err-fit : goal.returns-in_err-fit
returns-in_err-fit c =
    let p = err_from_is_err_and c.from_residual.result c.from_residual.ensures.1 in
    let q = refuses c.args.self c.args.out.now 7 _ c.in_err-fit.ensures in
    record { result_value = rw (p.1, p.2) q.0; out_after = q.1 }

pub shape_of-shape-requires : goal.shape_of-shape-requires
shape_of-shape-requires c = form_small c.args.self c.apart-v.ensures

pub fixed_of-requires : goal.fixed_of-requires
fixed_of-requires c = form_small c.args.self c.apart-v.ensures

pub returns : goal.returns
returns c =
    let q =
    written c.args.self c.args.out.now c.apart-v.result c.apart-v.ensures c.shape_of-shape.result c.shape_of-shape.ensures c.fixed_of.result
    c.fixed_of.ensures c.in_ok-fit.ensures c.write.result c.write.ensures.value _ c.write.ensures.out_after in
    record { result_value = q.0; out_after = q.1 }
