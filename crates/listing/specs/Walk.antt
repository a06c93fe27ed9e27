-- The walk. Document 01, 'The listing': upward by position. At a traced position `L` if target-marked; `O` with overlaps if any; `A` with
-- arrivals if chosen and any; then `I`. Then one position on. At an unmasked position its data run as `D`; then past the run. Other masked
-- positions print nothing.
-- Assumes nothing.
use Rattle.std.specs.Prelude.{ℕ, zero, suc, ◌-◌, Bool, true, false, cond, List, [], ◌++◌, eqb, length, get_or}
use Rattle.instruction.specs.Answer.{Answer}
use Rattle.instruction.specs.declared.mode.Mode.{Mode}
use Rattle.views.specs.View.{view_answer, view_room}
use Rattle.reach.specs.Mark.{traced_mark}
use Rattle.targets.specs.Here.{here_of}
use Rattle.views.specs.DataRun.{data_run}
use Rattle.views.specs.Labels.{labels_of}
use Rattle.views.specs.Mask.{mask_of}
use Rattle.arrivals.specs.Arrivals.{arrivals_of}
use Rattle.views.specs.Overlaps.{overlaps_of}
use Rattle.listing.specs.Lines.{label_line, overlap_line, arrival_line, here_line, data_line}
use Rattle.listing.specs.declared.tabbed.Arrivals.{Arrivals}
use Rattle.listing.specs.declared.tabbed.Arrivals.TheVariants.{Chosen, Declined}

abbrev pub is_chosen : Arrivals → Bool
is_chosen Chosen = true
is_chosen Declined = false

-- without a choice. Document 02, W5: arrivals are shown unless they are declined
abbrev pub unchosen : Arrivals
unchosen = Chosen

-- the lines of a traced position, by the target marks
unfoldable pub code_lines : Mode → List ℕ → List ℕ → List ℕ → Bool → ℕ → List ℕ
code_lines mode image m labels chosen p =
    cond (eqb (get_or labels p 0) 0) [] (label_line p)
    ++ (overlap_line p (overlaps_of image m p)
    ++ (cond chosen (arrival_line p (arrivals_of mode image m p)) []
    ++ here_line mode image p (here_of image p)))

-- what is printed at p, by the mask and the target marks
unfoldable pub lines_at : Mode → List ℕ → List ℕ → List ℕ → List ℕ → Bool → ℕ → List ℕ
lines_at mode image m mask labels chosen p =
    cond (traced_mark (get_or m p 0)) (code_lines mode image m labels chosen p)
    (cond (eqb (get_or mask p 0) 0) (data_line p (data_run image mask p)) [])

-- how many positions after p are passed over with it
unfoldable pub passed : List ℕ → List ℕ → List ℕ → ℕ → ℕ
passed image m mask p =
    cond (traced_mark (get_or m p 0)) 0 (cond (eqb (get_or mask p 0) 0) (length (data_run image mask p) - 1) 0)

-- the k positions from p on, of which the first s are passed over
unfoldable pub walk : Mode → List ℕ → List ℕ → List ℕ → List ℕ → Bool → ℕ → ℕ → ℕ → List ℕ
walk mode image m mask labels chosen zero p s = []
walk mode image m mask labels chosen (suc k) p (suc s) = walk mode image m mask labels chosen k (suc p) s
walk mode image m mask labels chosen (suc k) p zero =
    lines_at mode image m mask labels chosen p ++ walk mode image m mask labels chosen k (suc p) (passed image m mask p)

unfoldable pub listing_of : Mode → List ℕ → List ℕ → Arrivals → List ℕ
listing_of mode image m choice = walk mode image m (mask_of image m) (labels_of mode image m) (is_chosen choice) (length image) 0 0

-- what the call answers, and what it leaves in the room
abbrev pub listing_answer : Mode → List ℕ → List ℕ → Arrivals → List ℕ → Answer ℕ
listing_answer mode image m choice room = view_answer image m (listing_of mode image m choice) room

abbrev pub listing_room : Mode → List ℕ → List ℕ → Arrivals → List ℕ → List ℕ
listing_room mode image m choice room = view_room image m (listing_of mode image m choice) room
