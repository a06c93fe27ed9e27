-- How much room what is shown needs: the views, and how long a listing can be. Document 01, 'Views' and 'The listing'; document 02, W12.
-- Proved in proofs/ClaimsRoomBound.antt. Assumes nothing.
use Rattle.std.specs.Prelude.{ℕ, ◌*◌, ◌≤◌, List, ◌≡◌, length}
use Rattle.instruction.specs.Bytes.{Bytes}
use Rattle.instruction.specs.declared.mode.Mode.{Mode}
use Rattle.views.specs.Labels.{labels_of}
use Rattle.views.specs.Mask.{mask_of}
use Rattle.views.specs.Overlaps.{overlaps_of}
use Rattle.arrivals.specs.Arrivals.{arrivals_of}
use Rattle.listing.specs.Walk.{listing_of}
use Rattle.listing.specs.declared.tabbed.Arrivals.TheVariants.{Chosen, Declined}

-- Of an image of n bytes, whatever the marks: the mask and the target marks have n elements, there are at most three overlaps at a position,
-- and at most n arrivals
pub record ViewRooms (mode : Mode) (image m : List ℕ) : Type 0 where
  pub mask : length (mask_of image m) ≡ length image
  pub labels : length (labels_of mode image m) ≡ length image
  pub overlaps : (p : ℕ) → length (overlaps_of image m p) ≤ 3
  pub arrivals : (p : ℕ) → length (arrivals_of mode image m p) ≤ length image

-- so it is for every image
abbrev pub ViewsBound : Type 0
ViewsBound = (mode : Mode) (image m : List ℕ) → Bytes image → ViewRooms mode image m

-- without arrivals at most 60 bytes for each position, whatever the marks: 7 of `L`, 22 of `O` and 31 of `I`; a data run has at most 40
abbrev pub ListingBound : Type 0
ListingBound = (mode : Mode) (image m : List ℕ) → Bytes image → length (listing_of mode image m Declined) ≤ 60 * length image

-- with arrivals at most 77, all positions taken together: one line more, of 7 bytes and 5 for each of those that arrive, who are at most two
-- for each position
abbrev pub ChosenBound : Type 0
ChosenBound = (mode : Mode) (image m : List ℕ) → Bytes image → length (listing_of mode image m Chosen) ≤ 77 * length image
