-- What the writer prints, read back. Document 02, W1: it restores the image exactly, and the marks with 1 become 0 and 3 become 2.
-- Assumes nothing.
use Rattle.std.specs.Prelude.{ℕ, ◌≤◌, cond, List, map, ◌≡◌, length, take}
use Rattle.instruction.specs.Bytes.{Bytes}
use Rattle.instruction.specs.Answer.{accepted, Apart, laid}
use Rattle.instruction.specs.declared.mode.Mode.{Mode}
use Rattle.reach.specs.Mark.{untouched, traced, traced_mark}
use Rattle.text.specs.Cut.{lines}
use Rattle.views_laws.specs.ClaimsSound.{Undamaged}
use Rattle.listing.specs.Walk.{listing_of}
use Rattle.listing.specs.declared.tabbed.Arrivals.{Arrivals}
use Rattle.read_back.specs.Back.{restored_of, back_answer, back_image, back_marks}
use Rattle.read_back.specs.Read.{read_of}

-- a mark as a listing tells it: 1 and 4 become 0, and 3 becomes 2
abbrev pub told : ℕ → ℕ
told v = cond (traced_mark v) traced untouched

-- a listing of the image and its marks m, read back with the image's own length into rooms that are long enough
pub record GivenBack (mode : Mode) (image m : List ℕ) (choice : Arrivals) (room marks : List ℕ) : Type 0 where
  pub answer : back_answer mode (listing_of mode image m choice) (length image) room marks ≡ accepted (length (lines (listing_of mode image m choice)))
  pub bytes : back_image mode (listing_of mode image m choice) (length image) room marks ≡ laid image room
  pub tells : back_marks mode (listing_of mode image m choice) (length image) room marks ≡ laid (map told (take (length image) m)) marks

-- for every image and marks of which a listing is made, with or without arrivals
abbrev pub ListingRestores : Type 0
ListingRestores =
    (mode : Mode) (image m : List ℕ) (choice : Arrivals) (room marks : List ℕ) → Bytes image → length image ≤ 65536 → length image ≤ length m
    → Undamaged image m → length image ≤ length room → length image ≤ length marks
    → GivenBack mode image m choice room marks

-- the number and values of the answers tell all cases and all values apart
abbrev pub ReadApart : Type 0
ReadApart = Apart read_of

abbrev pub RestoredApart : Type 0
RestoredApart = Apart restored_of
