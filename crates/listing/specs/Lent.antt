-- What inner functions are lent: serves them alone.
-- Assumes nothing.
use Rattle.std.specs.Prelude.{ℕ, Bool, true, false, cond, List, [], eqb, length, get_or}
use Rattle.instruction.specs.Answer.{Answer}
use Rattle.instruction.specs.declared.mode.Mode.{Mode}
use Rattle.views.specs.View.{view_answer, view_room}
use Rattle.views.specs.DataRun.{data_run}
use Rattle.views.specs.Labels.{labels_of}
use Rattle.views.specs.Mask.{mask_of}
use Rattle.listing.specs.Walk.{walk}
use Rattle.listing.specs.declared.walk.Table.{Table}
use Rattle.listing.specs.declared.walk.Table.TheVariants.{Labels, Index}

-- the data run at p; none where p is masked
abbrev pub run_at : List ℕ → List ℕ → ℕ → List ℕ
run_at image m p = cond (eqb (get_or (mask_of image m) p 0) 0) (data_run image (mask_of image m) p) []

-- what stands in a table, and whether it is an index
abbrev pub cells_of : Table → List ℕ
cells_of (Labels l) = l.now
cells_of (Index x) = x.now

abbrev pub has_index : Table → Bool
has_index (Labels l) = false
has_index (Index x) = true

-- the listing, with arrivals or without
unfoldable pub text_of : Mode → List ℕ → List ℕ → Bool → List ℕ
text_of mode image m chosen = walk mode image m (mask_of image m) (labels_of mode image m) chosen (length image) 0 0

-- what the call answers of it, and what it leaves in the room
abbrev pub text_answer : Mode → List ℕ → List ℕ → Bool → List ℕ → Answer ℕ
text_answer mode image m chosen room = view_answer image m (text_of mode image m chosen) room

abbrev pub text_room : Mode → List ℕ → List ℕ → Bool → List ℕ → List ℕ
text_room mode image m chosen room = view_room image m (text_of mode image m chosen) room
