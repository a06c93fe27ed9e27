-- Each ceiling on a run is reached: computed.
-- Assumes nothing.
use mathlib.Core.Path.{refl}
use Rattle.instruction.specs.Answer.{judge}
use Rattle.instruction.specs.Decode.{cut_at, decode_answer, fields_in}
use Rattle.instruction.specs.Forms.{forms, form_at, form_of, form_named}
use Rattle.instruction.specs.Kinds.{kinds_of}
use Rattle.instruction.specs.Parts.{parts_of, made_of}
use Rattle.instruction.specs.Pattern.{pattern, pattern_bytes, onto, bits_given, next_bracket}
use Rattle.instruction.specs.Flow.{stops, jumps, branches, flow_of}
use Rattle.targets.specs.At.{fits_here, instr_here, ways_here, flash_here}
use Rattle.targets.specs.Targets.{address_of, address_in, targets_in}
use Rattle.reach.specs.HowMany.{how_many, is_among}
use Rattle.reach.specs.Mark.{traced_mark, cleared, count}
use Rattle.reach.specs.Note.{is_open, note, fresh}
use Rattle.reach.specs.Pins.{pin}
use Rattle.reach.specs.Run.{run_from, run_of}
use Rattle.reach.specs.Tracer.{targets, mark, took, found}
use Rattle.marks.specs.Tracer.{exempt_here}
use Rattle.trace.specs.Run.{outcome_of, run_answer, run_marks}
use Rattle.trace_laws.specs.ClaimsCeilings.{CeilingsReached}

pub ceilings_reached : CeilingsReached
unfolding fits_here instr_here ways_here flash_here fields_in form_at form_of form_named forms kinds_of parts_of made_of pattern pattern_bytes onto bits_given next_bracket
    targets_in address_in address_of flow_of stops jumps branches exempt_here took found targets mark note fresh is_open traced_mark cleared pin judge
    cut_at decode_answer run_answer run_marks outcome_of run_of run_from count how_many is_among
ceilings_reached =
    record { whole = refl; stopped = refl; stopped_entries = refl; cut = refl; cut_traced = refl; cut_noted = refl; cut_entries = refl }
