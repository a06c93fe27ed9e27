-- Demand 3 for images: accepted steps take positions up, so it is a corollary of the theory of tracing in any order.
-- Assumes nothing.
use Prim.Native.Nat.{ℕ, ◌<◌, ◌≤◌}
use native.Mathlib.Omega.{arith}
use mathlib.Core.Path.{◌≡◌, ap, subst}
use mathlib.Core.Logic.{inl, inr}
use mathlib.Core.List.{List}
use lib.ListN.{length, get_or}
use borrow.Author.Tests.{ltb-false}
use Rattle.instruction.specs.Answer.{Answer, accepted, after}
use Rattle.instruction.proofs.Accepting.{passed}
use Rattle.instruction.specs.declared.mode.Mode.{Mode}
use Rattle.reach.specs.Mark.{IsTraced}
use Rattle.reach.specs.Note.{note}
use Rattle.reach.specs.Takes.{Takes, stay, up, ToEnd}
use Rattle.reach.specs.Tracer.{took}
use Rattle.reach.proofs.Note.{length_note}
use Rattle.reach.proofs.NoteAt.{Noticed, as_before, newly, noticed}
use Rattle.reach.proofs.Order.{any_order, one_final}
use Rattle.reach.proofs.Run.{run_final}
use Rattle.reach.proofs.Takes.{takes_bound}
use Rattle.reach.proofs.Took.{Moved, itself, kept, called, moved, mark_traced, length_took}
use Rattle.reach.specs.Pins.{table}
use Rattle.reach.proofs.Table.{table_base}
use Rattle.reach.proofs.Table.{length_table, table_small}
use Rattle.trace_laws.specs.ClaimsImages as claims
use Rattle.trace.specs.Run.{outcome_of}
use Rattle.trace.specs.Start.{start_answer, start_marks}
use Rattle.trace.specs.Step.{step_result}
use Rattle.marks.specs.Tracer.{tracer_of}
use Rattle.trace_laws.proofs.Accepted.{went, Sound, ready_accepted}
use Rattle.trace_laws.proofs.Unflashed.{plain}

-- accepted steps take positions up
takes : (mode : Mode) (image : List ℕ) {m ps m' : List ℕ} → claims.Steps mode image m ps m' → Takes (tracer_of mode image) m ps m'
takes mode image claims.stay = stay
takes mode image (claims.further {m} {m'} {ps} {p} {s} e rest) =
    let w = went mode image m p s e in up w.ready (subst (λ (x : List ℕ). Takes (tracer_of mode image) x ps m') w.marks (takes mode image rest))

-- marks that start and steps leave are not damaged
module _ (mode : Mode) (image : List ℕ) where
  traced_small : (v : ℕ) → IsTraced v → v ≤ 4
  traced_small v (inl e) = omega arith
  traced_small v (inr e) = omega arith

  took_sound : (m : List ℕ) (p : ℕ) → length image ≤ length m → p < length image → Sound image m → Sound image (took (tracer_of mode image) m p)
  took_sound m p l h S q k = by (moved (tracer_of mode image) m p q l h)
    where
      by : Moved (tracer_of mode image) m p q → get_or (took (tracer_of mode image) m p) q 0 ≤ 4
      by (itself e f) = rw f (traced_small _ (mark_traced (tracer_of mode image) m p))
      by (kept e f g) = rw g (S q k)
      by (called e f g i) = rw i (omega arith)

  start_sound : (marks entries pins : List ℕ) → length image ≤ length marks → Sound image (note (length image) entries (table (length image) pins marks))
  start_sound marks entries pins l q k =
      by (noticed (length image) entries (table (length image) pins marks) q (omega (arith, length_table (length image) pins marks l)))
    where
      by : Noticed (length image) entries (table (length image) pins marks) q → get_or (note (length image) entries (table (length image) pins marks)) q 0 ≤ 4
      by (as_before f e) = rw e (table_small (length image) pins marks q l k)
      by (newly f g e) = rw e (omega arith)

  -- along takings
  sound_along : {m ps m' : List ℕ} → Takes (tracer_of mode image) m ps m' → length image ≤ length m → Sound image m → (length image ≤ length m') × Sound image m'
  sound_along stay l S = (l, S)
  sound_along (up {m} {m'} {ps} {p} r rest) l S =
      sound_along rest (omega (arith, length_took (tracer_of mode image) m p)) (took_sound m p l r.inside S)

-- an accepted start
pub record Began (image marks entries pins : List ℕ) : Type 0 where
  pub small : length image ≤ 65536
  pub room : length image ≤ length marks
  pub marks_are : start_marks image marks entries pins ≡ note (length image) entries (table (length image) pins marks)

pub began : (image marks entries pins : List ℕ) (k : ℕ) → start_answer image marks entries pins ≡ accepted k → Began image marks entries pins
unfolding start_answer start_marks
began image marks entries pins k e =
    let a = passed _ _ _ e in
    let b = passed _ _ _ a.1 in
    record {
      small = ltb-false 65536 (length image) a.0;
      room = ltb-false (length marks) (length image) b.0;
      marks_are = ap (λ (r : Answer ℕ). after r (note (length image) entries (table (length image) pins marks)) marks) e;
    }

pub to_end : (mode : Mode) (image marks entries pins m : List ℕ) → claims.StepsToEnd mode image marks entries pins m
    → ToEnd (tracer_of mode image) (table (length image) pins marks) entries m
to_end mode image marks entries pins m T =
    let s = began image marks entries pins T.count T.started in
    let t : Takes (tracer_of mode image) (note (length image) entries (table (length image) pins marks)) T.order m =
    subst (λ (x : List ℕ). Takes (tracer_of mode image) x T.order m) s.marks_are (takes mode image T.steps) in
    let l : length image ≤ length (note (length image) entries (table (length image) pins marks)) =
    omega (arith, length_note (length image) entries (table (length image) pins marks), length_table (length image) pins marks s.room, s.room) in
    let z = sound_along mode image t l (start_sound mode image marks entries pins s.room) in
    record {
      order = T.order;
      takes = t;
      ended = λ p r. T.still p (step_result (tracer_of mode image) m p) (ready_accepted mode image m z.1 s.small z.0 p r);
    }

pub image_any_order : claims.ImageAnyOrder
image_any_order mode image marks entries pins m B C T =
    any_order (tracer_of mode image) (plain mode image B C) (table (length image) pins marks) entries m
    (table_base (tracer_of mode image) pins marks (began image marks entries pins T.count T.started).room) (to_end mode image marks entries pins m T)

pub image_same_marks : claims.ImageSameMarks
image_same_marks mode image marks entries pins m m' B C T U =
    one_final (tracer_of mode image) (table (length image) pins marks) entries m m' (image_any_order mode image marks entries pins m B C T)
    (image_any_order mode image marks entries pins m' B C U)

pub image_steps_bound : claims.ImageStepsBound
image_steps_bound mode image m m' ps l S = takes_bound (tracer_of mode image) m m' ps l (takes mode image S)

pub image_run_final : claims.ImageRunFinal
unfolding outcome_of
image_run_final mode image marks entries pins limit B C l e =
    run_final limit (tracer_of mode image) entries (table (length image) pins marks) (plain mode image B C) (table_base (tracer_of mode image) pins marks l) e
