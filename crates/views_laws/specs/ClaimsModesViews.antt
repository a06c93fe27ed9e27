-- Where no short target and no next leaves memory, the two modes set the same target marks. Document 01, 'Views'; document 02, W7. The other
-- views of this crate are told no mode.
-- Assumes nothing.
use Rattle.std.specs.Prelude.{ℕ, List, ◌≡◌}
use Rattle.instruction.specs.declared.mode.Mode.TheVariants.{Unwrapped, Wrapping}
use Rattle.trace_laws.specs.ClaimsModesAlike.{Stays}
use Rattle.views.specs.Labels.{labels_of}

-- whatever the marks
abbrev pub LabelsAlike : Type 0
LabelsAlike = (image m : List ℕ) → Stays image → labels_of Wrapping image m ≡ labels_of Unwrapped image m
