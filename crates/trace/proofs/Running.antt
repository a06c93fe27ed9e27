-- What a run begins with, and what it answers and leaves where its loop ends.
-- Assumes nothing.
use mathlib.Core.Path.{◌≡◌, refl, sym, ap, subst, ◌∙◌}
use mathlib.Core.List.{List}
use Prim.Native.Nat.{ℕ, ◌≤◌}
use Rattle.std.specs.Prelude.{Result, Ok, Err}
use native.Mathlib.Omega.{arith}
use lib.ListN.{length, take}
use Rattle.instruction.specs.Answer.{refused}
use Rattle.instruction.specs.CutOff.{cut_values}
use Rattle.instruction.specs.declared.answer.CutOff.{CutOff}
use Rattle.instruction.specs.Decode.{cut_at}
use Rattle.instruction.specs.declared.mode.Mode.{Mode}
use Rattle.reach.specs.Mark.{traced_mark, count}
use Rattle.reach.specs.Queue.{Noted}
use Rattle.reach.specs.Run.{Outcome, End, finished, stopped, cut_off, run_of}
use Rattle.reach.specs.Takes.{Base}
use Rattle.reach.proofs.Came.{Came}
use Rattle.reach.proofs.Noted.{noted_long}
use Rattle.reach.proofs.Run.{run_takes}
use Rattle.reach.specs.Pins.{table}
use Rattle.reach.proofs.Table.{table_base}
use Rattle.reach.proofs.Table.{length_table}
use Rattle.trace.specs.Run.{outcome_of, end_of, ran_of, ran_answer, RanTo, StepsTied}
use Rattle.marks.specs.Tracer.{tracer_of}
use Rattle.trace.specs.declared.run.Counts.{Counts}
use Rattle.trace.specs.declared.run.Ran.{Ran}
use Rattle.trace.specs.declared.run.Ran.TheVariants.{Finished, Stopped}
use Rattle.trace.specs.declared.run.RunError.{RunError}
use Rattle.trace.specs.declared.run.RunError.TheVariants.{Cut}

-- what stands where the entries are noted: m₀ and o₀ with the list's end t₀
pub record Begun (mode : Mode) (image marks order entries pins m₀ o₀ : List ℕ) (t₀ : ℕ) : Type 0 where
  pub small : length image ≤ 65536
  pub base : Base (tracer_of mode image) (table (length image) pins marks)
  pub room : length image ≤ length order
  pub noted : Noted (length image) entries (table (length image) pins marks) order 0 m₀ o₀ t₀
  pub marks_fit : length image ≤ length m₀
  pub order_fits : length image ≤ length o₀
  pub marks_kept : length m₀ ≡ length marks
  pub order_kept : length o₀ ≡ length order

pub begun_of : (mode : Mode) (image marks order entries pins m o₀ m₀ : List ℕ) (t₀ : ℕ)
    → (length image ≤ 65536) × (length image ≤ length marks) × (length image ≤ length order) → m ≡ table (length image) pins marks
    → Noted (length image) entries m order 0 m₀ o₀ t₀ → Begun mode image marks order entries pins m₀ o₀ t₀
begun_of mode image marks order entries pins m o₀ m₀ t₀ s e N' =
    let N : Noted (length image) entries (table (length image) pins marks) order 0 m₀ o₀ t₀ =
    subst (λ (b : List ℕ). Noted (length image) entries b order 0 m₀ o₀ t₀) e N' in
    let h : length image ≤ length marks = s.1 in
    let k : length image ≤ length order = s.2 in
    record {
      small = s.0;
      base = table_base (tracer_of mode image) pins marks h;
      room = k;
      noted = N;
      marks_fit = omega (arith, (noted_long N).0, length_table (length image) pins marks h);
      order_fits = omega (arith, (noted_long N).1);
      marks_kept = (noted_long N).0 ∙ length_table (length image) pins marks h;
      order_kept = (noted_long N).1;
    }

module _ (mode : Mode) (image marks order entries pins : List ℕ) (limit : ℕ) (B : Base (tracer_of mode image) (table (length image) pins marks)) where
  abbrev out : Outcome
  out = run_of limit (tracer_of mode image) entries (table (length image) pins marks)

  ended : (e : End) (r : Result Ran RunError) (m o : List ℕ) (tail head : ℕ) → Came order out e m o tail head → ran_of r ≡ end_of image e head tail → StepsTied image r m
      → RanTo mode image marks order entries pins limit r m o
  unfolding outcome_of
  ended e r m o tail head C a t =
      let x = C.end_is in
      let y = C.steps_are in
      let z = C.noted_are in
      record { answer_is = a ∙ (let g : end_of image e head tail ≡ ran_answer image out = cc in g); marks_are = C.marks_are; order_is = C.order_is; tied = t }

  -- the steps are the traced marks
  tied : (e : End) (m o : List ℕ) (tail head : ℕ) → Came order out e m o tail head → head ≡ count traced_mark (take (length image) m)
  tied e m o tail head C =
      C.steps_are ∙ sym (run_takes limit (tracer_of mode image) entries (table (length image) pins marks) B).counted
      ∙ ap (λ (x : List ℕ). count traced_mark (take (length image) x)) (sym C.marks_are)

  module _ (m o : List ℕ) (tail head : ℕ) where
    abbrev counts : Counts
    counts = record { steps = head; noted = tail }

    pub ran_finished : Came order out finished m o tail head → RanTo mode image marks order entries pins limit (Ok (Finished counts)) m o
    ran_finished C = ended finished (Ok (Finished counts)) m o tail head C refl (tied finished m o tail head C)

    pub ran_stopped : Came order out stopped m o tail head → RanTo mode image marks order entries pins limit (Ok (Stopped counts)) m o
    ran_stopped C = ended stopped (Ok (Stopped counts)) m o tail head C refl (tied stopped m o tail head C)

    pub ran_cut : (p : ℕ) (c : CutOff) → cut_values c ≡ cut_values (cut_at image p) → Came order out (cut_off p) m o tail head → (m' o' : List ℕ) → m' ≡ m → o' ≡ o
        → RanTo mode image marks order entries pins limit (Err (Cut c)) m' o'
    ran_cut p c h C m' o' e f = rw (e, f) (ended (cut_off p) (Err (Cut c)) m o tail head C (ap (refused 5) h) tt)
