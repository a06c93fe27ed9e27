-- What resolve answers. Document 01, 'Resolving operands': a mode (document 02, W7), plain
-- numbers and a base in, fields out, by refusals 14, 7, 8, 9 and 10.
-- Assumes nothing.
use Rattle.std.specs.Prelude.{Result, Ok, Err, ℕ}
use Rattle.instruction.specs.Answer.{Answer, accepted, judge}
use Rattle.instruction.specs.Kinds.{three_of}
use Rattle.instruction.specs.declared.kind.Kinds.{Kinds}
use Rattle.instruction.specs.ResolveOperand.{field_of, resolve_refused, refusals}
use Rattle.instruction.specs.Encode.{form_in}
use Rattle.instruction.specs.Parts.{parts_of, made_of}
use Rattle.instruction.specs.declared.instr.Instr.{Instr}
use Rattle.instruction.specs.declared.instr.Parts.{Parts}
use Rattle.instruction.specs.declared.mode.Mode.{Mode}
use Rattle.instruction.specs.declared.resolve_operand.ResolveError.{ResolveError}

-- the number and values of each answer
abbrev pub resolved_of : Result Instr ResolveError → Answer Instr
resolved_of (Ok i) = accepted i
resolved_of (Err e) = resolve_refused e

-- the refusals of its numbers and the base, and else the instruction with the fields
unfoldable pub resolve_answer : Mode → Instr → ℕ → Answer Instr
resolve_answer mode i base =
    let v : Parts = parts_of i in
    let k : Kinds = three_of (form_in i).shape in
    judge (refusals mode k v.a v.b v.c base)
    (made_of (record { form = v.form; a = field_of mode base k.a v.a; b = field_of mode base k.b v.b; c = field_of mode base k.c v.c }))
