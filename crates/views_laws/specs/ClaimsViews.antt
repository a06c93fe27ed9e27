-- What is claimed of the answers of the views. Document 01, 'Forms by place'.
-- Assumes nothing.
use Rattle.instruction.specs.Answer.{Apart}
use Rattle.targets.specs.Ways.{places_in}
use Rattle.views.specs.View.{viewed_of, checked_of}
use Rattle.views.specs.Overlaps.{overlaps_in}

-- the number and values of the answers tell all cases and all values apart
abbrev pub ViewedApart : Type 0
ViewedApart = Apart viewed_of

-- and those of what the views, a replay and a report judge first
abbrev pub CheckedApart : Type 0
CheckedApart = Apart checked_of

-- so do the positions in what overlaps_at answers
abbrev pub OverlapsApart : Type 0
OverlapsApart = Apart overlaps_in

-- and those of the places that a position had for targets
abbrev pub PlacesApart : Type 0
PlacesApart = Apart places_in
