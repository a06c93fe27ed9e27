-- What `targets` answers: next judged first, and then the fields.
-- Assumes nothing.
use Rattle.std.proofs.Common.{ℕ, ◌+◌, ◌<◌, sym, ap, ◌∙◌, arith}
use Rattle.std.proofs.lemmas.Result.{err_from_is_err_and}
use Rattle.instruction.specs.Answer.{accepted}
use Rattle.instruction.specs.Parts.{parts_of}
use Rattle.instruction.specs.declared.instr.Instr.{Instr}
use Rattle.instruction.specs.Encode.{form_in}
use Rattle.instruction.specs.Forms.{size_of}
use Rattle.instruction.proofs.Known.{known}
use Rattle.instruction.proofs.Shapes.{size_range}
use Rattle.targets.specs.Targets.{targets_in}
use Rattle.targets.proofs.AskedAlone.{past_end, unfitting, found}
use Rattle.targets.proofs.instr_targets.targets.Goals as goal

size_small : (i : Instr) → (0 < size_of (form_in i)) × (size_of (form_in i) < 4)
size_small i = size_range (parts_of i).form (known i).small

pub overflow_add-next : goal.overflow_add-next
overflow_add-next c = record { fits = omega (arith, c.size.ensures, (size_small c.args.instr).1) }

pub returns-then-next : goal.returns-then-next
returns-then-next c =
    let a = c.args in
    rw c.size.ensures (past_end a.mode a.position a.instr (rw c.size.ensures at c.if-next.true))

pub returns-in_err-fit : goal.returns-in_err-fit
returns-in_err-fit c =
    let a = c.args in
    let p = err_from_is_err_and c.from_residual.result c.from_residual.ensures.1 in
    rw (p.1, p.2) (unfitting a.mode a.position a.instr (rw c.size.ensures at c.if-next.false) 7 _ c.in_err-fit.ensures)

pub ways-requires : goal.ways-requires
ways-requires c = sym c.in_ok-fit.ensures

pub invariant_of-from : goal.invariant_of-from
invariant_of-from c = record { in_memory = (omega (arith, c.size.ensures, (size_small c.args.instr).0), c.if-next.false) }

pub returns : goal.returns
returns c =
    let a = c.args in
    ap accepted (c.ways.ensures ∙ ap (λ (n : ℕ). targets_in a.mode (a.position + n) a.instr) c.size.ensures)
    ∙ found a.mode a.position a.instr (rw c.size.ensures at c.if-next.false) c.in_ok-fit.ensures
