-- Where no target leaves memory, a traced position names the same in both modes.
-- Assumes nothing.
use mathlib.Core.Path.{◌≡◌, refl, ap, fun_ext}
use mathlib.Core.Bool.{Bool, true, false, cond, ◌&&◌}
use mathlib.Core.List.{List, map}
use Prim.Native.Nat.{ℕ}
use lib.Dec.{eqb, ltb, leb}
use lib.ListN.{length, get_or}
use Rattle.instruction.specs.declared.mode.Mode.TheVariants.{Unwrapped, Wrapping}
use Rattle.targets.specs.At.{fits_here, name_here}
use Rattle.targets.specs.Ways.{name_of}
use Rattle.reach.specs.Mark.{traced_mark}
use Rattle.marks.specs.Tracer.{exempt_here}
use Rattle.trace_laws.specs.ClaimsModesAlike.{Stays}
use Rattle.trace_laws.proofs.ClaimsModesAlike.{stays_alike}
use Rattle.views.specs.Positions.{positions, some, bit}
use Rattle.views.specs.Labels.{labelled, labels_of}
use Rattle.views_laws.specs.ClaimsModesViews.{LabelsAlike}

named_same : (image : List ℕ) → Stays image → (p : ℕ) → name_of Wrapping image p ≡ name_of Unwrapped image p
unfolding name_of
named_same image S p = by (ltb p (length image) && leb (length image) 65536) (fits_here image p) ((stays_alike image S).name p)
  where
    by : (a b : Bool) → (b ≡ true → name_here Wrapping image p ≡ name_here Unwrapped image p)
        → cond (a && b) (name_here Wrapping image p) 65536 ≡ cond (a && b) (name_here Unwrapped image p) 65536
    by true true e = e refl
    by true false e = refl
    by false true e = refl
    by false false e = refl

-- the target marks, by what each position names
abbrev labels_by : List ℕ → List ℕ → (ℕ → ℕ) → List ℕ
labels_by image m name =
    map
    (λ (t : ℕ). bit (some (λ (p : ℕ). eqb (cond (traced_mark (get_or m p 0)) (cond (exempt_here image m p) 65536 (name p)) 65536) t) (positions image)))
    (positions image)

pub labels_alike : LabelsAlike
unfolding labels_of labelled
labels_alike image m S = ap (labels_by image m) (fun_ext (named_same image S))
