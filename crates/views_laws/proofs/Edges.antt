-- The starred edges, computed.
-- Assumes nothing.
use mathlib.Core.Path.{refl}
use Rattle.instruction.specs.Answer.{judge}
use Rattle.instruction.specs.Decode.{cut_at, decode_answer, fields_in}
use Rattle.instruction.specs.Encode.{instr_bytes}
use Rattle.instruction.specs.Forms.{forms, form_at, form_of, form_named}
use Rattle.instruction.specs.Kinds.{kinds_of}
use Rattle.instruction.specs.Parts.{parts_of, made_of}
use Rattle.instruction.specs.Pattern.{pattern, pattern_bytes, onto, bits_given, next_bracket}
use Rattle.instruction.specs.Resolve.{resolve_answer}
use Rattle.instruction.specs.ResolveOperand.{operand_refusals, field_of}
use Rattle.instruction.specs.Range.{unfit}
use Rattle.instruction.specs.Flow.{stops, jumps, branches, flow_of}
use Rattle.targets.specs.At.{fits_here, instr_here, ways_here, flash_here, name_here}
use Rattle.targets.specs.Targets.{address_of, address_in, targets_in, targets_answer}
use Rattle.targets.specs.Ways.{name_of}
use Rattle.reach.specs.Mark.{traced_mark, cleared}
use Rattle.reach.specs.Note.{is_open, note, fresh}
use Rattle.reach.specs.Run.{run_from, run_of}
use Rattle.reach.specs.Tracer.{targets, mark, took, found}
use Rattle.reach.specs.Pins.{pin}
use Rattle.trace.specs.Run.{outcome_of, run_marks, run_order}
use Rattle.marks.specs.Tracer.{exempt_here}
use Rattle.views.specs.Positions.{up_from, some}
use Rattle.views.specs.Labels.{labelled, labels_of}
use Rattle.views_laws.specs.Edges.{Edges}

pub edges : Edges
unfolding pin judge cut_at decode_answer fields_in resolve_answer operand_refusals field_of instr_bytes forms form_at form_of form_named kinds_of parts_of made_of pattern
    pattern_bytes onto bits_given next_bracket targets_answer targets_in address_in address_of fits_here instr_here ways_here flash_here name_here name_of exempt_here
    run_marks run_order outcome_of run_of run_from took found targets mark note fresh is_open traced_mark cleared labels_of labelled some up_from unfit flow_of stops
    jumps branches
edges =
    (refl, refl, refl, refl, refl, refl, refl, refl, refl, refl, refl, refl, refl, refl, refl, refl, refl, refl, refl, refl, refl, refl, refl, refl)
