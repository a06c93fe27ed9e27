-- Which lines the listing has. Document 01, 'The listing': upward by position.
-- Assumes nothing.
use Rattle.std.specs.Prelude.{ℕ, zero, suc, ◌≤◌, cond, true, List, [], ◌∷◌, ◌++◌, map, ◌≡◌, eqb, length, get_or}
use Prim.Native.Char.{code}
use Rattle.instruction.specs.Bytes.{Bytes}
use Rattle.instruction.specs.declared.mode.Mode.{Mode}
use Rattle.views.specs.Positions.{positions, kept, traced_at}
use Rattle.views.specs.Labels.{labels_of}
use Rattle.views.specs.Mask.{mask_of}
use Rattle.views.specs.Overlaps.{overlaps_of}
use Rattle.arrivals.specs.Arrivals.{arrivals_of}
use Rattle.views_laws.specs.ClaimsSound.{Undamaged}
use Rattle.listing.specs.Hex.{hex4}
use Rattle.listing.specs.Line.{line}
use Rattle.listing.specs.Lines.{label_line, overlap_line, arrival_line}
use Rattle.listing.specs.Walk.{is_chosen, lines_at, passed, listing_of}
use Rattle.listing.specs.declared.tabbed.Arrivals.{Arrivals}

-- texts one after another
unfoldable pub joined : List (List ℕ) → List ℕ
joined [] = []
joined (t ∷ ts) = t ++ joined ts

-- of the k positions from p on, the first s passed over, those at which the walk stops
unfoldable pub stops_from : List ℕ → List ℕ → List ℕ → ℕ → ℕ → ℕ → List ℕ
stops_from image m mask zero p s = []
stops_from image m mask (suc k) p (suc s) = stops_from image m mask k (suc p) s
stops_from image m mask (suc k) p zero = p ∷ stops_from image m mask k (suc p) (passed image m mask p)

abbrev pub walk_stops : List ℕ → List ℕ → List ℕ
walk_stops image m = stops_from image m (mask_of image m) (length image) 0 0

-- the listing is what is printed at the stops, one after another, and no traced position is passed over
pub record Stopped (mode : Mode) (image m : List ℕ) (choice : Arrivals) : Type 0 where
  pub text : listing_of mode image m choice ≡ joined (map (lines_at mode image m (mask_of image m) (labels_of mode image m) (is_chosen choice)) (walk_stops image m))
  pub traced : kept (traced_at image m) (walk_stops image m) ≡ kept (traced_at image m) (positions image)

-- for every image and every table of marks
abbrev pub TracedListed : Type 0
TracedListed = (mode : Mode) (image m : List ℕ) (choice : Arrivals) → Bytes image → Stopped mode image m choice

-- what is printed at a traced position: an `L`, an `O` and an `A` line, those that there are, and then one `I` line with the position
pub record CodeAt (mode : Mode) (image m : List ℕ) (choice : Arrivals) (p : ℕ) : Type 0 where
  pub fields : List (List ℕ)
  pub text : lines_at mode image m (mask_of image m) (labels_of mode image m) (is_chosen choice) p
      ≡ cond (eqb (get_or (labels_of mode image m) p 0) 0) [] (label_line p)
      ++ (overlap_line p (overlaps_of image m p)
      ++ (cond (is_chosen choice) (arrival_line p (arrivals_of mode image m p)) []
      ++ line (code "I") (hex4 p ∷ fields)))

-- at each traced position of marks that no view refuses; at every other position the definition prints a `D` line or nothing
abbrev pub CodeListed : Type 0
CodeListed =
    (mode : Mode) (image m : List ℕ) (choice : Arrivals) → Bytes image → length image ≤ 65536 → Undamaged image m
    → (p : ℕ) → traced_at image m p ≡ true → CodeAt mode image m choice p
