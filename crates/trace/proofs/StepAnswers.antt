-- The refusals of step in their order: each test of the code says that those before it do not hold.
-- Assumes nothing.
use mathlib.Core.Path.{◌≡◌, refl, sym, ap, ◌∙◌}
use mathlib.Core.Bool.{Bool, true, false, not}
use mathlib.Core.List.{List, [], ◌∷◌}
use Prim.Native.Nat.{ℕ, ◌<◌, ◌≤◌}
use native.Mathlib.Omega.{arith}
use lib.Dec.{eqb, leb}
use lib.IntN.{pos}
use lib.ListN.{length, get_or}
use borrow.Author.Tests.{lt-ltb, le-leb, lt-leb, eqb-false, ne_eqb}
use Rattle.instruction.specs.Answer.{Answer, refused, Refusal, judge, after, refuse}
use Rattle.instruction.specs.CutOff.{cut_values}
use Rattle.instruction.specs.declared.answer.CutOff.{CutOff}
use Rattle.instruction.proofs.Judging.{pass, stop}
use Rattle.instruction.specs.Decode.{cut_at}
use Rattle.instruction.specs.declared.mode.Mode.{Mode}
use Rattle.reach.specs.Tracer.{targets, took}
use Rattle.marks.specs.Refusals.{size_refusals, size_refused, damaged}
use Rattle.marks.specs.declared.sizes.SizeError.{SizeError}
use Rattle.trace.specs.Step.{idle, damage_refusals, step_refusals, StepResult, step_result, step_answer, step_marks, stepped_of, not_stepped}
use Rattle.marks.specs.Tracer.{tracer_of}
use Rattle.targets.specs.At.{fits_here}
use Rattle.targets.specs.Ways.{ways_of}
use Rattle.targets.specs.declared.not_whole.NotWhole.{NotWhole}
use Rattle.targets.specs.declared.not_whole.NotWhole.TheVariants as cause
use Rattle.targets.proofs.WaysAre.{goes_cut, never_outside}
use Rattle.std.specs.Prelude.{Err}
use Rattle.marks.proofs.Sizing as sizing
use Rattle.trace.proofs.Stepping.{Inner}

none_left : (v : ℕ) → v ≤ 4 → (v ≡ 0 → ⊥) → (v ≡ 1 → ⊥) → (v ≡ 2 → ⊥) → (v ≡ 3 → ⊥) → (v ≡ 4 → ⊥) → ⊥
none_left v h a b c d e = omega arith

-- marks that do not wait
pub idle_marks : (v : ℕ) → v ≤ 4 → (v ≡ 1 → ⊥) → idle v ≡ true
idle_marks v h w = by (eqb v 0) refl (eqb v 2) refl (eqb v 3) refl (eqb v 4) refl
  where
    by : (a : Bool) → eqb v 0 ≡ a → (b : Bool) → eqb v 2 ≡ b → (c : Bool) → eqb v 3 ≡ c → (d : Bool) → eqb v 4 ≡ d → idle v ≡ true
    by true e b f c g d i = rw e
    by false e true f c g d i = rw (e, f)
    by false e false f true g d i = rw (e, f, g)
    by false e false f false g true i = rw (e, f, g, i)
    by false e false f false g false i = absurd (none_left v h (eqb-false v 0 e) w (eqb-false v 2 f) (eqb-false v 3 g) (eqb-false v 4 i))

not_idle : (v : ℕ) → (v ≡ 0 → ⊥) → (v ≡ 2 → ⊥) → (v ≡ 3 → ⊥) → (v ≡ 4 → ⊥) → idle v ≡ false
not_idle v a b c d = rw (ne_eqb v 0 a, ne_eqb v 2 b, ne_eqb v 3 c, ne_eqb v 4 d)

module _ (mode : Mode) (image m : List ℕ) (p : ℕ) where
  abbrev n : ℕ
  n = length image

  abbrev v : ℕ
  v = get_or m p 0

  abbrev Is : Answer StepResult → List ℕ → Type 0
  Is r t = (r ≡ step_answer mode image m p) × (t ≡ step_marks mode image m p)

  -- those of the damaged marks besides p's own
  abbrev damages_here : List Refusal
  damages_here = damage_refusals image m p (targets (tracer_of mode image) m p)

  -- the refusals after 1 and 2
  abbrev later : List Refusal
  later =
      refuse (leb n p) 4 (pos 0 ∷ [])
      ∷ refuse (idle v) 4 (pos v ∷ [])
      ∷ refuse (damaged v) 6 (pos p ∷ [])
      ∷ refuse (not (fits_here image p)) 5 (cut_values (cut_at image p))
      ∷ damages_here

  held : (r : Answer StepResult) → step_answer mode image m p ≡ r → (t : List ℕ) → after r (took (tracer_of mode image) m p) m ≡ t → Is r t
  unfolding step_marks
  held r e t f = (sym e, rw e (sym f))

  pub sizes : (e : SizeError) → size_refused {A = Unit {0}} e ≡ judge (size_refusals image m) tt → Is (size_refused e) m
  unfolding step_answer step_refusals
  sizes e f = held (size_refused e) (sym (sizing.sizes_refused image m later _ e f)) m (sizing.refused_after StepResult e _ m)

  module _ (fits : n ≤ 65536) where
    module _ (room : n ≤ length m) where
      pub outside : n ≤ p → Is (refused 4 (pos 0 ∷ [])) m
      unfolding step_answer step_refusals
      outside h =
          held (refused 4 (pos 0 ∷ [])) (sizing.right_sizes image m later (step_result (tracer_of mode image) m p) fits room ∙ stop _ _ _ (le-leb n p h)) m refl

      module _ (inside : p < n) where
        -- what follows the tests of the sizes and of the position
        begun : step_answer mode image m p
            ≡ judge (refuse (idle v) 4 (pos v ∷ []) ∷ refuse (damaged v) 6 (pos p ∷ []) ∷ refuse (not (fits_here image p)) 5 (cut_values (cut_at image p))
            ∷ damages_here) (step_result (tracer_of mode image) m p)
        unfolding step_answer step_refusals
        begun = sizing.right_sizes image m later (step_result (tracer_of mode image) m p) fits room ∙ pass _ _ _ (lt-leb n p inside)

        pub damaged_mark : 4 < v → Is (refused 6 (pos p ∷ [])) m
        damaged_mark h =
            held (refused 6 (pos p ∷ [])) (begun ∙ pass _ _ _ (not_idle v (λ e. omega arith) (λ e. omega arith) (λ e. omega arith) (λ e. omega arith))
            ∙ stop _ _ _ (lt-ltb 4 v h)) m refl

        pub not_waiting : v ≤ 4 → (v ≡ 1 → ⊥) → Is (refused 4 (pos v ∷ [])) m
        not_waiting h w = held (refused 4 (pos v ∷ [])) (begun ∙ stop _ _ _ (idle_marks v h w)) m refl

        module _ (waits : v ≡ 1) where
          waiting : step_answer mode image m p
              ≡ judge (refuse (not (fits_here image p)) 5 (cut_values (cut_at image p)) ∷ damages_here) (step_result (tracer_of mode image) m p)
          waiting = begun ∙ pass _ _ _ (ap idle waits) ∙ pass _ _ _ (ap damaged waits)

          cut : (c : CutOff) → (fits_here image p ≡ false) × (cut_values c ≡ cut_values (cut_at image p)) → Is (refused 5 (cut_values c)) m
          cut c h = held (refused 5 (cut_values c)) (waiting ∙ stop _ _ _ (rw h.0) ∙ ap (refused 5) (sym h.1)) m refl

          pub whole : fits_here image p ≡ true → (r : Answer StepResult) (t : List ℕ) → Inner (tracer_of mode image) image m p r t → Is r t
          unfolding step_marks
          whole f r t h = let e : step_answer mode image m p ≡ judge (damages_here) (step_result (tracer_of mode image) m p) = waiting ∙ pass _ _ _ (rw f) in
              (h.0 ∙ sym e, rw e h.1)

          pub not_whole : (e : NotWhole) → Err e ≡ ways_of mode image p → Is (stepped_of (Err (not_stepped e))) m
          not_whole (cause.Cut c) e = cut c (goes_cut mode image p inside fits c e)
          not_whole cause.Outside e = absurd (never_outside mode image p inside fits e)
