-- Masks of an image with B8 0D 21 that differ with the order of the entries, computed.
-- Assumes nothing.
use mathlib.Core.Path.{refl}
use Rattle.instruction.specs.Answer.{judge}
use Rattle.instruction.specs.Decode.{fields_in}
use Rattle.instruction.specs.Forms.{forms, form_at, form_of, form_named}
use Rattle.instruction.specs.Kinds.{kinds_of}
use Rattle.instruction.specs.Parts.{parts_of, made_of}
use Rattle.instruction.specs.Pattern.{pattern, pattern_bytes, onto, bits_given, next_bracket}
use Rattle.instruction.specs.Flow.{stops, jumps, branches, flow_of}
use Rattle.targets.specs.At.{fits_here, instr_here, ways_here, flash_here}
use Rattle.targets.specs.Targets.{address_of, address_in, targets_in}
use Rattle.reach.specs.Mark.{traced_mark, cleared}
use Rattle.reach.specs.Note.{is_open, note, fresh}
use Rattle.reach.specs.Pins.{pin}
use Rattle.reach.specs.Run.{run_from, run_of}
use Rattle.reach.specs.Tracer.{targets, mark, took, found}
use Rattle.marks.specs.Tracer.{exempt_here}
use Rattle.trace.specs.Run.{outcome_of, run_marks}
use Rattle.views.specs.Positions.{up_from, some}
use Rattle.views.specs.Mask.{masked, mask_of}
use Rattle.views_laws.specs.ClaimsBetweenViews.{MasksDiffer}

pub masks_differ : MasksDiffer
unfolding fits_here instr_here ways_here flash_here fields_in form_at form_of form_named forms kinds_of parts_of made_of pattern pattern_bytes onto bits_given next_bracket
    targets_in address_in address_of flow_of stops jumps branches exempt_here took found targets mark note fresh is_open traced_mark cleared pin judge
    run_marks outcome_of run_of run_from mask_of masked some up_from
masks_differ = (refl, refl)
