-- What is shown of an image is no longer than its positions allow.
-- Assumes nothing.
use mathlib.Core.Bool.{true, false}
use lib.ListN.{length}
use Rattle.arrivals.specs.Arrivals.{arrives, arrivals_of}
use Rattle.listing.specs.Walk.{listing_of}
use Rattle.listing.proofs.Widths.{overlaps_few, all_width}
use Rattle.views.proofs.Kept.{kept_few}
use Rattle.views.proofs.Masking.{mask_length}
use Rattle.views.proofs.Labelling.{labels_length}
use Rattle.listing_laws.specs.ClaimsRoom.{ViewsBound, ListingBound, ChosenBound}

pub views_bound : ViewsBound
unfolding arrivals_of
views_bound mode image m B = record {
  mask = mask_length image m;
  labels = labels_length mode image m;
  overlaps = overlaps_few image m B;
  arrivals = λ p. kept_few (arrives mode image m p) (length image) 0;
}

pub listing_bound : ListingBound
unfolding listing_of
listing_bound mode image m B = all_width mode image m B _ _ false

pub chosen_bound : ChosenBound
unfolding listing_of
chosen_bound mode image m B = all_width mode image m B _ _ true
