-- What `resolve` answers: one operand after the other.
-- Assumes nothing.
use Rattle.std.proofs.Common.{◌≡◌, ap, ◌∙◌, ℤ, w32, to_z, of_z, rules}
use Rattle.std.proofs.lemmas.Result.{err_from_is_err_and}
use Rattle.instruction.specs.Answer.{accepted}
use Rattle.instruction.proofs.FieldReading.{make3}
use Rattle.instruction.proofs.FieldResolved.{far, no1, no2, no3, yes}
use Rattle.instruction.proofs.resolve_operand.resolve.Goals as goal

abbrev Read : ℤ → Type 0
Read z = to_z w32 (of_z w32 z) ≡ z

pub returns-then-base-gt-HIGHEST_BASE : goal.returns-then-base-gt-HIGHEST_BASE
returns-then-base-gt-HIGHEST_BASE c =
    let a = c.args in far a.mode a.kinds a.v.a a.v.b a.v.c a.base c.if-base-gt-HIGHEST_BASE.true

pub returns-in_err-a : goal.returns-in_err-a
returns-in_err-a c =
    let a = c.args in
    let ra : Read a.v.a = search rules in
    let p = err_from_is_err_and c.from_residual.result c.from_residual.ensures.1 in
    rw (p.1, p.2) (no1 a.mode a.kinds a.v.a a.v.b a.v.c a.base c.if-base-gt-HIGHEST_BASE.false _ (rw ra at c.in_err-a.ensures))

pub returns-in_err-b : goal.returns-in_err-b
returns-in_err-b c =
    let a = c.args in
    let ra : Read a.v.a = search rules in
    let rb : Read a.v.b = search rules in
    let p = err_from_is_err_and c.from_residual-in_err-b.result c.from_residual-in_err-b.ensures.1 in
    rw (p.1, p.2)
    (no2 a.mode a.kinds a.v.a a.v.b a.v.c a.base c.if-base-gt-HIGHEST_BASE.false _ (rw ra at c.in_ok-a.ensures) _
    (rw rb at c.in_err-b.ensures))

pub returns-in_err-c : goal.returns-in_err-c
returns-in_err-c c =
    let a = c.args in
    let ra : Read a.v.a = search rules in
    let rb : Read a.v.b = search rules in
    let rc : Read a.v.c = search rules in
    let p = err_from_is_err_and c.from_residual-in_err-c.result c.from_residual-in_err-c.ensures.1 in
    rw (p.1, p.2)
    (no3 a.mode a.kinds a.v.a a.v.b a.v.c a.base c.if-base-gt-HIGHEST_BASE.false _ (rw ra at c.in_ok-a.ensures) _
    (rw rb at c.in_ok-b.ensures) _ (rw rc at c.in_err-c.ensures))

pub returns : goal.returns
returns c =
    let a = c.args in
    let ra : Read a.v.a = search rules in
    let rb : Read a.v.b = search rules in
    let rc : Read a.v.c = search rules in
    let fx : Read c.in_ok-a.a = search rules in
    let fy : Read c.in_ok-b.b = search rules in
    let fz : Read c.in_ok-c.c = search rules in
    ap accepted (make3 fx fy fz)
    ∙ yes a.mode a.kinds a.v.a a.v.b a.v.c a.base c.if-base-gt-HIGHEST_BASE.false _ (rw ra at c.in_ok-a.ensures) _
    (rw rb at c.in_ok-b.ensures) _ (rw rc at c.in_ok-c.ensures)
