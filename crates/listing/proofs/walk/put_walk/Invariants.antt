-- The walk that is left, put from here, is the whole, put from the start.
-- Assumes nothing.
use Rattle.std.proofs.Common.{◌≡◌, ◌-◌, ◌*◌, ◌≤◌, length}
use Rattle.views.specs.Labels.{labels_of}
use Rattle.views.specs.Mask.{mask_of}
use Rattle.views.proofs.Masking.{Masks}
use Rattle.text.proofs.Putting.{Going}
use Rattle.listing.specs.Lent.{has_index, text_of}
use Rattle.listing.proofs.Walking.{left_at}
use Rattle.listing.proofs.walk.put_walk.Given as goal

abbrev pub invariant-loop-p : goal.invariant-loop-p
invariant-loop-p l =
    let mode = l.lent.mode in
    let image = l.lent.image.now in
    let marks = l.lent.marks.now in
    let chosen = has_index l.lent.table in
    (l.p ≤ length image)
    × (l.at ≤ 4194304 * l.p)
    × (length l.out ≡ length l.initial.out)
    × Masks image marks l.p l.end
    × Going (text_of mode image marks chosen) l.initial.out 0 l.out l.at (left_at mode image marks (mask_of image marks) (labels_of mode image marks) chosen l.p)

abbrev pub decreases-loop-p : goal.decreases-loop-p
decreases-loop-p l = length l.lent.image.now - l.p
