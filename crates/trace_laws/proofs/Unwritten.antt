-- A step at an instruction that is cut off writes nothing, whatever its targets.
-- Assumes nothing.
use mathlib.Core.Path.{◌≡◌, refl, ap}
use mathlib.Core.Bool.{Bool, true, false, cond, not}
use mathlib.Core.List.{List, [], ◌∷◌, ◌++◌}
use Prim.Native.Nat.{ℕ}
use lib.Dec.{leb}
use lib.IntN.{pos}
use lib.ListN.{length, get_or}
use Rattle.instruction.specs.Answer.{refused, Refusal, refuse, judge, after}
use Rattle.instruction.specs.CutOff.{cut_values}
use Rattle.instruction.specs.Decode.{cut_at}
use Rattle.instruction.specs.declared.mode.Mode.{Mode}
use Rattle.reach.specs.Tracer.{targets, took}
use Rattle.marks.specs.Refusals.{size_refusals, damaged}
use Rattle.marks.specs.Tracer.{tracer_of}
use Rattle.targets.specs.At.{fits_here}
use Rattle.trace.specs.Step.{idle, damage_refusals, step_refusals, step_result, step_answer, step_marks}

-- where a test of the list holds, nothing is written
nothing : {A : Type 0} (xs : List Refusal) (r : Refusal) (rs : List Refusal) (a : A) (w m : List ℕ) → r.holds ≡ true
    → after (judge (xs ++ (r ∷ rs)) a) w m ≡ m
unfolding judge
nothing [] r rs a w m h = rw h
nothing (x ∷ xs) r rs a w m h = by x.holds (nothing xs r rs a w m h)
  where
    by : (t : Bool) → after (judge (xs ++ (r ∷ rs)) a) w m ≡ m
        → after (cond t (refused x.number x.values) (judge (xs ++ (r ∷ rs)) a)) w m ≡ m
    by true e = refl
    by false e = e

-- a step at an instruction that is cut off leaves the marks
pub unwritten : (mode : Mode) (image m : List ℕ) (p : ℕ) → fits_here image p ≡ false → step_marks mode image m p ≡ m
unfolding step_marks step_answer step_refusals
unwritten mode image m p f =
    nothing
    (size_refusals image m
    ++ (refuse (leb (length image) p) 4 (pos 0 ∷ [])
    ∷ refuse (idle (get_or m p 0)) 4 (pos (get_or m p 0) ∷ [])
    ∷ refuse (damaged (get_or m p 0)) 6 (pos p ∷ [])
    ∷ []))
    (refuse (not (fits_here image p)) 5 (cut_values (cut_at image p)))
    (damage_refusals image m p (targets (tracer_of mode image) m p))
    (step_result (tracer_of mode image) m p) (took (tracer_of mode image) m p) m (ap not f)
