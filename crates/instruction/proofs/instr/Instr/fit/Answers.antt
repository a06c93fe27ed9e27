-- What `Instr::fit` answers: one operand after the other is held against its range.
-- Assumes nothing.
use Rattle.std.proofs.Common.{◌≡◌, ℤ, w32, to_z, of_z, rules}
use Rattle.std.proofs.lemmas.Result.{err_from_is_err_and}
use Rattle.instruction.proofs.Encoding.{told1, told2, told3, all_fit}
use Rattle.instruction.proofs.instr.Instr.fit.Goals as goal

abbrev Read : ℤ → Type 0
Read z = to_z w32 (of_z w32 z) ≡ z

pub returns-in_err-held : goal.returns-in_err-held
returns-in_err-held c =
    let v = c.apart-v.result in
    let a : Read v.a = search rules in
    let p = err_from_is_err_and c.from_residual.result c.from_residual.ensures.1 in
    rw (p.1, p.2) (told1 c.args.self v c.apart-v.ensures c.kinds-k.result c.kinds-k.ensures a c.in_err-held.ensures)

pub returns-in_err-held-2 : goal.returns-in_err-held-2
returns-in_err-held-2 c =
    let v = c.apart-v.result in
    let a : Read v.a = search rules in
    let b : Read v.b = search rules in
    let p = err_from_is_err_and c.from_residual-in_err-held-2.result c.from_residual-in_err-held-2.ensures.1 in
    rw (p.1, p.2)
    (told2 c.args.self v c.apart-v.ensures c.kinds-k.result c.kinds-k.ensures a c.in_ok-held.ensures.0 b c.in_err-held-2.ensures)

pub returns-in_err-held-3 : goal.returns-in_err-held-3
returns-in_err-held-3 c =
    let v = c.apart-v.result in
    let a : Read v.a = search rules in
    let b : Read v.b = search rules in
    let d : Read v.c = search rules in
    let p = err_from_is_err_and c.from_residual-in_err-held-3.result c.from_residual-in_err-held-3.ensures.1 in
    rw (p.1, p.2)
    (told3 c.args.self v c.apart-v.ensures c.kinds-k.result c.kinds-k.ensures a c.in_ok-held.ensures.0 b c.in_ok-held-2.ensures.0 d
    c.in_err-held-3.ensures)

pub returns : goal.returns
returns c =
    let v = c.apart-v.result in
    let a : Read v.a = search rules in
    let b : Read v.b = search rules in
    let d : Read v.c = search rules in
    all_fit c.args.self v c.apart-v.ensures c.kinds-k.result c.kinds-k.ensures a c.in_ok-held.ensures.0 b c.in_ok-held-2.ensures.0 d
    c.in_ok-held-3.ensures.0
