-- The refusals of run in their order, and what follows them.
-- Assumes nothing.
use mathlib.Core.Path.{◌≡◌, refl, sym, ◌∙◌}
use mathlib.Core.List.{List, [], ◌∷◌}
use Prim.Native.Nat.{ℕ, ◌<◌, ◌≤◌}
use Rattle.std.specs.Prelude.{Result}
use lib.Dec.{ltb}
use lib.IntN.{ℤ, pos}
use lib.ListN.{length}
use borrow.Author.Tests.{lt-ltb, le-ltb}
use Rattle.instruction.specs.Answer.{Answer, accepted, refused, Refusal, refuse, judge}
use Rattle.instruction.proofs.Judging.{pass, stop, done}
use Rattle.instruction.specs.declared.mode.Mode.{Mode}
use Rattle.trace.specs.Run.{RunResult, ran_of, run_judged, run_answer, run_marks, run_order, RanTo, StepsTied}
use Rattle.trace.specs.declared.run.Ran.{Ran}
use Rattle.trace.specs.declared.run.RunError.{RunError}
use Rattle.marks.specs.Refusals.{size_refusals, size_refused}
use Rattle.marks.specs.declared.sizes.SizeError.{SizeError}
use Rattle.marks.specs.declared.sizes.SizeError.TheVariants.{LongImage, ShortMarks}
use Rattle.marks.proofs.Sizing as sizing

module _ (mode : Mode) (image marks order entries pins : List ℕ) (limit : ℕ) where
  abbrev n : ℕ
  n = length image

  -- the refusal after 1 and 2
  abbrev later : List Refusal
  later = refuse (ltb (length order) n) 3 (pos (length order) ∷ []) ∷ []

  abbrev Is : Answer RunResult → List ℕ → List ℕ → Type 0
  Is a m o = (a ≡ run_answer mode image marks order entries pins limit) × (m ≡ run_marks mode image marks order entries pins limit)
      × (o ≡ run_order mode image marks order entries pins limit)

  -- a refusal changes nothing
  refused_is : (k : ℕ) (vs : List ℤ) → run_judged image marks order ≡ refused k vs → Is (refused k vs) marks order
  unfolding run_answer run_marks run_order
  refused_is k vs e = rw e (refl, refl, refl)

  pub sizes : (e : SizeError) → size_refused {A = Unit {0}} e ≡ judge (size_refusals image marks) tt → Is (size_refused e) marks order
  sizes (LongImage k) f = refused_is 1 (pos k ∷ []) (sym (sizing.sizes_refused image marks later tt (LongImage k) f))
  sizes (ShortMarks k) f = refused_is 2 (pos k ∷ []) (sym (sizing.sizes_refused image marks later tt (ShortMarks k) f))

  module _ (fits : n ≤ 65536) where
    module _ (room : n ≤ length marks) where
      pub short_order : length order < n → Is (refused 3 (pos (length order) ∷ [])) marks order
      short_order h =
          refused_is 3 (pos (length order) ∷ []) (sizing.right_sizes image marks later tt fits room ∙ stop _ _ _ (lt-ltb (length order) n h))

      pub ran : n ≤ length order → (r : Result Ran RunError) (m o : List ℕ) → RanTo mode image marks order entries pins limit r m o
          → (ran_of r ≡ run_answer mode image marks order entries pins limit) × (m ≡ run_marks mode image marks order entries pins limit)
          × (o ≡ run_order mode image marks order entries pins limit) × StepsTied image r m
      unfolding run_answer run_marks run_order
      ran h r m o R =
          let e : run_judged image marks order ≡ accepted tt = sizing.right_sizes image marks later tt fits room ∙ pass _ _ _ (le-ltb (length order) n h)
          ∙ done tt in
          rw e (R.answer_is, R.marks_are, R.order_is, R.tied)
