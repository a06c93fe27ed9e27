-- The original's worklist, computed.
-- Assumes nothing.
use mathlib.Core.Path.{refl}
use Rattle.instruction.specs.Decode.{fields_in}
use Rattle.instruction.specs.Flow.{stops, jumps, branches, flow_of}
use Rattle.instruction.specs.Forms.{forms, form_at, form_of, form_named}
use Rattle.instruction.specs.Kinds.{kinds_of}
use Rattle.instruction.specs.Parts.{parts_of, made_of}
use Rattle.instruction.specs.Pattern.{pattern, pattern_bytes, onto, bits_given, next_bracket}
use Rattle.targets.specs.At.{fits_here, instr_here, ways_here, flash_here}
use Rattle.targets.specs.Targets.{address_of, address_in, targets_in}
use Rattle.reach.specs.ClaimsWorklist.{firsts}
use Rattle.reach.specs.HowMany.{is_among}
use Rattle.reach.specs.Mark.{traced_mark}
use Rattle.reach.specs.Worklist.{targets_by, visited, uncontained, pushed, round, rounds, worklist}
use Rattle.marks.specs.Tracer.{exempt_here}
use Rattle.trace_laws.specs.ClaimsWorklist as claims

pub worklist_samples : claims.WorklistSamples
unfolding fits_here instr_here ways_here flash_here fields_in form_at form_of form_named forms kinds_of parts_of made_of pattern pattern_bytes onto bits_given next_bracket
    targets_in address_in address_of flow_of stops jumps branches exempt_here traced_mark is_among firsts
    worklist rounds round pushed uncontained visited targets_by
worklist_samples = record { doubled = refl; once_each = refl; visited_again = refl; jump_stays = refl }
