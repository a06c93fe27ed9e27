-- The sweeping engine over images: by its definitions it sweeps the tracer of the image, so what is claimed of every tracer holds.
-- Assumes nothing.
use Prim.Native.Nat.{ℕ, suc, ◌≤◌}
use native.Mathlib.Omega.{arith}
use mathlib.Core.List.{List}
use mathlib.Core.Path.{◌≡◌, refl, sym, ap, subst, ◌∙◌}
use lib.ListN.{length, take}
use borrow.Author.Tests.{ltb-false, le-ltb}
use Rattle.instruction.specs.Answer.{Answer, accepted, refused, after}
use Rattle.instruction.specs.Decode.{cut_at}
use Rattle.instruction.specs.CutOff.{cut_values}
use Rattle.instruction.proofs.Accepting.{passed, ended, differ}
use Rattle.instruction.proofs.Judging.{pass, done}
use Rattle.instruction.specs.declared.mode.Mode.{Mode}
use Rattle.reach.specs.Mark.{traced_mark, count}
use Rattle.reach.specs.Note.{note, fresh}
use Rattle.reach.specs.Run.{End, finished, stopped, cut_off, steps, noted}
use Rattle.reach.specs.Sweep.{swept_marks, sweeps, swept_steps}
use Rattle.reach.specs.ClaimsSweep.{EachTakes, sweeps_of}
use Rattle.reach.proofs.Note.{length_note}
use Rattle.reach.proofs.SweepEach.{sweeps_each}
use Rattle.reach.proofs.SweepRun.{sweeps_run, sweeps_wait}
use Rattle.reach.specs.Pins.{table}
use Rattle.reach.proofs.Table.{table_base}
use Rattle.reach.proofs.Table.{length_table}
use Rattle.marks.specs.Tracer.{tracer_of}
use Rattle.trace.specs.Run.{run_judged, run_answer, ran_answer, end_of, outcome_of, and_then}
use Rattle.trace.specs.Start.{start_answer, start_marks}
use Rattle.sweep.specs.Sweep.{SweepResult, sweep_result, sweep_answer, sweep_leaves}
use Rattle.trace_laws.specs.ClaimsSweeps as claims
use Rattle.trace_laws.proofs.Finished as finish
use Rattle.trace_laws.proofs.Unflashed.{plain}

-- where the sizes are right, the engine starts as start does and sweeps
module _ (mode : Mode) (image marks entries pins : List ℕ) (small : length image ≤ 65536) (room : length image ≤ length marks) where
  abbrev begun : List ℕ
  begun = note (length image) entries (table (length image) pins marks)

  start_is : start_marks image marks entries pins ≡ begun
  unfolding start_marks start_answer
  start_is =
      ap (λ (r : Answer ℕ). after r begun marks)
      (pass _ _ (length (fresh (length image) entries (table (length image) pins marks))) (le-ltb 65536 (length image) small)
      ∙ pass _ _ _ (le-ltb (length marks) (length image) room) ∙ done _)

  swept : sweep_answer mode image marks entries pins ≡ accepted (sweep_result mode image (start_marks image marks entries pins))
  unfolding sweep_answer
  swept = pass _ _ _ (le-ltb 65536 (length image) small) ∙ pass _ _ _ (le-ltb (length marks) (length image) room) ∙ done _

  leaves : sweep_leaves mode image marks entries pins ≡ swept_marks (tracer_of mode image) (start_marks image marks entries pins)
  unfolding sweep_leaves
  leaves = ap (λ (r : Answer SweepResult). after r (swept_marks (tracer_of mode image) (start_marks image marks entries pins)) marks) swept

  -- it is the sweeps of the image's tracer
  pub leaves_sweeps : sweep_leaves mode image marks entries pins ≡ sweeps_of (suc (length image)) (tracer_of mode image) entries (table (length image) pins marks)
  unfolding swept_marks
  leaves_sweeps = leaves ∙ ap (swept_marks (tracer_of mode image)) start_is

  start_long : length image ≤ length (start_marks image marks entries pins)
  start_long =
      let e = ap length start_is in
      omega (arith, e, length_note (length image) entries (table (length image) pins marks), length_table (length image) pins marks room)

  each : EachTakes (tracer_of mode image) (start_marks image marks entries pins) (sweep_leaves mode image marks entries pins)
      (sweeps (tracer_of mode image) (start_marks image marks entries pins))
  each =
      subst (λ (m : List ℕ). EachTakes (tracer_of mode image) (start_marks image marks entries pins) m
      (sweeps (tracer_of mode image) (start_marks image marks entries pins)))
      (sym leaves) (sweeps_each (tracer_of mode image) (start_marks image marks entries pins) start_long)

-- ---- what an accepted call says

module _ (mode : Mode) (image marks entries pins : List ℕ) (s : SweepResult) (e : sweep_answer mode image marks entries pins ≡ accepted s) where
  pub small_image : length image ≤ 65536
  unfolding sweep_answer
  small_image = ltb-false 65536 (length image) (passed _ _ _ e).0

  pub long_marks : length image ≤ length marks
  unfolding sweep_answer
  long_marks = ltb-false (length marks) (length image) (passed _ _ _ (passed _ _ _ e).1).0

  result_is : sweep_result mode image (start_marks image marks entries pins) ≡ s
  unfolding sweep_answer
  result_is = ended _ (passed _ _ _ (passed _ _ _ e).1).1

pub image_sweep_steps : claims.ImageSweepSteps
unfolding swept_steps
image_sweep_steps mode image marks entries pins s e =
    ap (λ (r : SweepResult). r.steps) (sym (result_is mode image marks entries pins s e))
    ∙ ap (λ (m : List ℕ). count traced_mark (take (length image) m))
    (sym (leaves mode image marks entries pins (small_image mode image marks entries pins s e) (long_marks mode image marks entries pins s e)))

pub image_sweeps : claims.ImageSweeps
image_sweeps mode image marks entries pins s e =
    subst (λ (r : SweepResult). EachTakes (tracer_of mode image) (start_marks image marks entries pins) (sweep_leaves mode image marks entries pins) r.sweeps)
    (result_is mode image marks entries pins s e)
    (each mode image marks entries pins (small_image mode image marks entries pins s e) (long_marks mode image marks entries pins s e))

-- ---- beside a run

pub image_sweep_run : claims.ImageSweepRun
unfolding outcome_of
image_sweep_run mode image marks order entries pins limit s B C a f =
    let j = finish.sized mode image marks order entries pins limit s a in
    let room = finish.covered mode image marks order entries pins limit j in
    leaves_sweeps mode image marks entries pins (finish.short_image mode image marks order entries pins limit j) room
    ∙ sweeps_run (suc (length image)) limit (tracer_of mode image) entries (table (length image) pins marks) (plain mode image B C)
    (table_base (tracer_of mode image) pins marks room) (omega arith) (finish.ended mode image marks order entries pins limit s a f)
    ∙ sym (finish.marks_are mode image marks order entries pins limit s a)

module _ (mode : Mode) (image marks order entries pins : List ℕ) (limit : ℕ) (small : length image ≤ 65536) (room : length image ≤ length marks)
    (places : length image ≤ length order) where
  pub judged : run_judged image marks order ≡ accepted tt
  judged =
      pass _ _ tt (le-ltb 65536 (length image) small) ∙ pass _ _ tt (le-ltb (length marks) (length image) room)
      ∙ pass _ _ tt (le-ltb (length order) (length image) places) ∙ done tt

  pub answer_is : run_answer mode image marks order entries pins limit ≡ ran_answer image (outcome_of mode image marks entries pins limit)
  unfolding run_answer
  answer_is = ap (λ (q : Answer (Unit {0})). and_then q (ran_answer image (outcome_of mode image marks entries pins limit))) judged

  cut_five : (p : ℕ) → (outcome_of mode image marks entries pins limit).end ≡ cut_off p → claims.EndsInFive mode image marks order entries pins limit
  cut_five p e = (
    cut_values (cut_at image p),
    answer_is
        ∙ ap (λ (x : End). end_of image x (steps (outcome_of mode image marks entries pins limit))
        (length (noted (outcome_of mode image marks entries pins limit)))) e,
  )

  five_cut : claims.EndsInFive mode image marks order entries pins limit → (p : ℕ) × ((outcome_of mode image marks entries pins limit).end ≡ cut_off p)
  five_cut w = by (outcome_of mode image marks entries pins limit).end refl (sym answer_is ∙ w.1)
    where
      by : (x : End) → (outcome_of mode image marks entries pins limit).end ≡ x
          → end_of image x (steps (outcome_of mode image marks entries pins limit)) (length (noted (outcome_of mode image marks entries pins limit)))
          ≡ refused 5 w.0 → (p : ℕ) × ((outcome_of mode image marks entries pins limit).end ≡ cut_off p)
      by finished e f = absurd (differ (sym f))
      by stopped e f = absurd (differ (sym f))
      by (cut_off p) e f = (p, e)

pub image_sweep_waits : claims.ImageSweepWaits
unfolding outcome_of
image_sweep_waits mode image marks order entries pins limit B C small room places enough =
    let w = sweeps_wait (suc (length image)) limit (tracer_of mode image) entries (table (length image) pins marks) (plain mode image B C)
    (table_base (tracer_of mode image) pins marks room) (omega arith) enough in
    let l = leaves_sweeps mode image marks entries pins small room in (
      (λ h. let c = w.0 (subst (claims.Waits image) l h) in cut_five mode image marks order entries pins limit small room places c.0 c.1),
      (λ h. subst (claims.Waits image) (sym l) (w.1 (five_cut mode image marks order entries pins limit small room places h))),
    )
