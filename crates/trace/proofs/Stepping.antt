-- The one answer of step and the one content of its marks, from the tests of the code.
-- Assumes nothing.
use mathlib.Core.Path.{◌≡◌, refl, sym, ap, ap₂, subst, ◌∙◌}
use mathlib.Core.List.{List, [], ◌∷◌}
use Prim.Native.Nat.{ℕ}
use Rattle.std.specs.Prelude.{Ok}
use lib.IntN.{pos}
use lib.ListN.{length}
use Rattle.instruction.specs.Answer.{Answer, accepted, refused, Refusal, judge, after}
use Rattle.instruction.proofs.Judging.{refuses_too, accepts_too}
use Rattle.instruction.specs.declared.mode.Mode.{Mode}
use Rattle.reach.specs.Tracer.{Tracer, targets, mark, took, found}
use Rattle.trace.specs.Step.{damage_refusals, StepResult, step_result, stepped_of}
use Rattle.marks.specs.Taken.{going_to, TakenUp}
use Rattle.targets.specs.At.{ways_here}
use Rattle.targets.specs.Ways.{places_in}
use Rattle.marks.specs.Tracer.{tracer_of}
use Rattle.marks.specs.declared.take.Taken.{Taken}

-- of a tracer
module _ (G : Tracer) (image m : List ℕ) (p : ℕ) where
  abbrev taken : List ℕ
  taken = took G m p

  abbrev refusals : List Refusal
  refusals = damage_refusals image m p (targets G m p)

  -- of a step at a waiting position where an instruction stands
  abbrev inner : Answer StepResult
  inner = judge refusals (step_result G m p)

  abbrev pub Inner : Answer StepResult → List ℕ → Type 0
  Inner r t = (r ≡ inner) × (t ≡ after inner taken m)

  inner_held : (r : Answer StepResult) → inner ≡ r → (t : List ℕ) → after r taken m ≡ t → Inner r t
  inner_held r e t f = (sym e, rw e (sym f))

  pub damaged_said : (q : ℕ) → refused 6 (pos q ∷ []) ≡ judge {A = Unit {0}} refusals tt → Inner (refused 6 (pos q ∷ [])) m
  damaged_said q e = inner_held (refused 6 (pos q ∷ [])) (refuses_too refusals tt (step_result G m p) 6 (pos q ∷ []) (sym e)) m refl

  abbrev said : ℕ → ℕ → StepResult
  said a b = record { mark = a; waiting = b }

  pub took_said : accepted tt ≡ judge {A = Unit {0}} refusals tt → (r : Taken) (m' : List ℕ) → TakenUp G m p r m' → (k : ℕ) → k ≡ length (places_in r.noted)
      → Inner (stepped_of (Ok (record { mark = r.mark; waiting = k }))) m'
  took_said e r m' t k f =
      let v : step_result G m p ≡ said r.mark k = ap₂ said (sym t.mark_is) (sym (f ∙ ap length t.noted_are)) in
      inner_held (stepped_of (Ok (record { mark = r.mark; waiting = k }))) (accepts_too refusals tt (step_result G m p) (sym e) ∙ ap accepted v) m' (sym t.marks_are)

-- where these are the targets of the instruction at p, it is the image's own tracer
pub inner_ways : (mode : Mode) (image ts m : List ℕ) (p : ℕ) (r : Answer StepResult) (t : List ℕ) → ts ≡ ways_here mode image p
    → Inner (going_to image ts) image m p r t → Inner (tracer_of mode image) image m p r t
unfolding targets mark took found
inner_ways mode image ts m p r t e h = subst (λ (us : List ℕ). Inner (going_to image us) image m p r t) e h
