-- The number and values of what a view answers tell all cases apart: they are read back.
-- Assumes nothing.
use Prim.Native.Nat.{ℕ}
use mathlib.Core.Path.{◌≡◌, refl}
use mathlib.Core.Bool.{cond}
use mathlib.Core.List.{List, [], ◌∷◌}
use lib.Dec.{eqb}
use Rattle.std.proofs.Common.{Result, Ok, Err}
use Rattle.marks.specs.declared.sizes.SizeError.TheVariants.{LongImage, ShortMarks}
use Rattle.instruction.specs.Answer.{Answer, accepted, refused}
use Rattle.instruction_laws.proofs.Undone.{undone, number_at}
use Rattle.targets.specs.Ways.{places_in, places_named}
use Rattle.targets.specs.declared.place.Places.{Places}
use Rattle.targets.specs.declared.place.Places.TheVariants.{Nothing, First, Both}
use Rattle.views.specs.View.{viewed_of, checked_of}
use Rattle.views.specs.declared.view.ViewError.{ViewError}
use Rattle.views.specs.declared.view.ViewError.TheVariants.{Size, Damaged, NoRoom}
use Rattle.views.specs.Overlaps.{overlaps_in}
use Rattle.views.specs.declared.overlaps.Overlaps.{Overlaps}
use Rattle.views.specs.declared.overlaps.Overlaps.TheVariants as over
use Rattle.views_laws.specs.ClaimsViews.{ViewedApart, CheckedApart, OverlapsApart, PlacesApart}

abbrev answered : Answer ℕ → Result ℕ ViewError
answered (accepted n) = Ok n
answered (refused n vs) =
    cond (eqb n 1) (Err (Size (LongImage (number_at vs 0))))
    (cond (eqb n 2) (Err (Size (ShortMarks (number_at vs 0))))
    (cond (eqb n 6) (Err (Damaged (number_at vs 0))) (Err (NoRoom (number_at vs 0)))))

back : (r : Result ℕ ViewError) → answered (viewed_of r) ≡ r
back (Ok n) = refl
back (Err (Size (LongImage n))) = refl
back (Err (Size (ShortMarks n))) = refl
back (Err (Damaged p)) = refl
back (Err (NoRoom n)) = refl

pub viewed_apart : ViewedApart
viewed_apart = undone viewed_of answered back

abbrev allowed : Answer (Unit {0}) → Result (Unit {0}) ViewError
allowed (accepted u) = Ok u
allowed (refused n vs) =
    cond (eqb n 1) (Err (Size (LongImage (number_at vs 0))))
    (cond (eqb n 2) (Err (Size (ShortMarks (number_at vs 0))))
    (cond (eqb n 6) (Err (Damaged (number_at vs 0))) (Err (NoRoom (number_at vs 0)))))

checked : (r : Result (Unit {0}) ViewError) → allowed (checked_of r) ≡ r
checked (Ok u) = refl
checked (Err (Size (LongImage n))) = refl
checked (Err (Size (ShortMarks n))) = refl
checked (Err (Damaged p)) = refl
checked (Err (NoRoom n)) = refl

pub checked_apart : CheckedApart
checked_apart = undone checked_of allowed checked

abbrev overlapping : List ℕ → Overlaps
overlapping [] = over.Nothing
overlapping (a ∷ []) = over.One a
overlapping (a ∷ b ∷ []) = over.Two a b
overlapping (a ∷ b ∷ c ∷ ps) = over.Three a b c

overlapped : (r : Overlaps) → overlapping (overlaps_in r) ≡ r
overlapped over.Nothing = refl
overlapped (over.One a) = refl
overlapped (over.Two a b) = refl
overlapped (over.Three a b c) = refl

pub overlaps_apart : OverlapsApart
overlaps_apart = undone overlaps_in overlapping overlapped

placed : (r : Places) → places_named (places_in r) ≡ r
placed Nothing = refl
placed (First a) = refl
placed (Both a b) = refl

pub places_apart : PlacesApart
places_apart = undone places_in places_named placed
