-- What an accepted run that is finished says: the sizes were right, and its marks are those of the definition's run.
-- Assumes nothing.
use mathlib.Core.Path.{◌≡◌, refl, sym, ap, ◌∙◌}
use mathlib.Core.Bool.{Bool, true, false}
use mathlib.Core.List.{List}
use Prim.Native.Nat.{ℕ, ◌≤◌}
use lib.Dec.{ltb}
use lib.ListN.{length}
use borrow.Author.Tests.{ltb-false}
use Rattle.instruction.proofs.Accepting.{differ}
use Rattle.instruction.specs.Answer.{Answer, accepted, refused, after}
use Rattle.instruction.proofs.Judging.{pass, stop}
use Rattle.instruction.proofs.Sign.{never}
use Rattle.instruction.specs.declared.mode.Mode.{Mode}
use Rattle.reach.specs.Run.{End, finished, stopped, cut_off, Outcome, steps, noted}
use Rattle.trace.specs.Run.{RunResult, run_judged, run_answer, run_marks, ran_answer, end_of, outcome_of, and_then}

module _ (mode : Mode) (image marks order entries pins : List ℕ) (limit : ℕ) where
  abbrev judged : Answer (Unit {0})
  judged = run_judged image marks order

  abbrev out : Outcome
  out = outcome_of mode image marks entries pins limit

  -- the marks are those of the definition's run wherever no size is refused
  pub marks_left : judged ≡ accepted tt → run_marks mode image marks order entries pins limit ≡ out.marks
  unfolding run_marks
  marks_left j = ap (λ (q : Answer (Unit {0})). after q out.marks marks) j

  module _ (s : RunResult) (a : run_answer mode image marks order entries pins limit ≡ accepted s) where
    passed : (r : Answer (Unit {0})) → judged ≡ r → (r ≡ accepted tt) × (ran_answer image out ≡ accepted s)
    unfolding run_answer
    passed (accepted tt) e = (refl, ap (λ (q : Answer (Unit {0})). and_then q (ran_answer image out)) (sym e) ∙ a)
    passed (refused n vs) e =
        absurd (differ (ap (λ (q : Answer (Unit {0})). and_then q (ran_answer image out)) (sym e) ∙ a))

    pub sized : judged ≡ accepted tt
    sized = (passed judged refl).0

    pub marks_are : run_marks mode image marks order entries pins limit ≡ out.marks
    marks_are = marks_left sized

    -- the steps and the positions noted are the run's
    pub counts_are : (s.steps ≡ steps out) × (s.noted ≡ length (noted out))
    counts_are = by out.end (passed judged refl).1
      where
        by : (e : End) → end_of image e (steps out) (length (noted out)) ≡ accepted s → (s.steps ≡ steps out) × (s.noted ≡ length (noted out))
        by finished r = (cc, cc)
        by stopped r = (cc, cc)
        by (cut_off p) r = absurd (differ r)

    pub ended : s.finished ≡ true → out.end ≡ finished
    ended f = by out.end refl (passed judged refl).1
      where
        by : (e : End) → out.end ≡ e → end_of image e (steps out) (length (noted out)) ≡ accepted s → out.end ≡ finished
        by finished h r = h
        by stopped h r = absurd (let z : false ≡ s.finished = cc in never (sym (z ∙ f)))
        by (cut_off p) h r = absurd (differ r)

  pub covered : judged ≡ accepted tt → length image ≤ length marks
  covered e = by (ltb 65536 (length image)) refl (ltb (length marks) (length image)) refl
    where
      by : (b : Bool) → ltb 65536 (length image) ≡ b → (c : Bool) → ltb (length marks) (length image) ≡ c → length image ≤ length marks
      by b f false g = ltb-false (length marks) (length image) g
      by true f true g = absurd (differ (sym (stop _ _ _ f) ∙ e))
      by false f true g = absurd (differ (sym (pass _ _ _ f ∙ stop _ _ _ g) ∙ e))

  pub short_image : judged ≡ accepted tt → length image ≤ 65536
  short_image e = by (ltb 65536 (length image)) refl
    where
      by : (b : Bool) → ltb 65536 (length image) ≡ b → length image ≤ 65536
      by false f = ltb-false 65536 (length image) f
      by true f = absurd (differ (sym (stop _ _ _ f) ∙ e))
