-- What `Instr::resolve` answers: the fields, or why there are none, are those of its operands.
-- Assumes nothing.
use Rattle.std.proofs.Common.{◌≡◌, ℕ, ℤ, ap, ◌∙◌, w32, to_z, of_z, rules}
use Rattle.std.proofs.lemmas.Result.{err_from_is_err_and}
use Rattle.instruction.specs.Answer.{Answer}
use Rattle.instruction.specs.declared.kind.Kinds.{Kinds}
use Rattle.instruction.specs.ResolveOperand.{fields_answer}
use Rattle.instruction.specs.declared.layout.Fields.{Fields}
use Rattle.instruction.specs.Parts.{made_of}
use Rattle.instruction.specs.declared.instr.Parts.{Parts}
use Rattle.instruction.specs.declared.mode.Mode.{Mode}
use Rattle.instruction.proofs.Known.{form_small}
use Rattle.instruction.proofs.Reading.{make4}
use Rattle.instruction.proofs.ResolvedTo.{no, yes}
use Rattle.instruction.proofs.instr.Instr.resolve.Goals as goal

abbrev Read : ℤ → Type 0
Read z = to_z w32 (of_z w32 z) ≡ z

-- what the operands are answered is what the instruction's are
same : (o : Mode) {r : Answer Fields} {k k' : Kinds} {v v' : Parts} (n : ℕ) → r ≡ fields_answer o k v.a v.b v.c n → k ≡ k' → v ≡ v'
    → r ≡ fields_answer o k' v'.a v'.b v'.c n
same o n e p q = cc

pub returns-in_err-f : goal.returns-in_err-f
returns-in_err-f c =
    let p = err_from_is_err_and c.from_residual.result c.from_residual.ensures.1 in
    rw (p.1, p.2)
    (no c.args.mode c.args.self c.args.base _ (same c.args.mode {v = c.apart-v.result} c.args.base c.in_err-f.ensures c.kinds-k.ensures c.apart-v.ensures))

pub build-requires : goal.build-requires
build-requires c =
    let e : c.new.result.form ≡ c.apart-v.result.form = ap (λ (v : Parts). v.form) c.new.ensures in
    rw e (form_small c.args.self c.apart-v.ensures)

pub returns : goal.returns
returns c =
    let f : Fields = c.in_ok-f.f in
    let fa : Read f.a = search rules in
    let fb : Read f.b = search rules in
    let fd : Read f.c = search rules in
    yes c.args.mode c.args.self c.args.base f
    (same c.args.mode {v = c.apart-v.result} c.args.base c.in_ok-f.ensures c.kinds-k.ensures c.apart-v.ensures)
    c.build.result (c.build.ensures ∙ ap made_of (c.new.ensures ∙ make4 (ap (λ (v : Parts). v.form) c.apart-v.ensures) fa fb fd))
