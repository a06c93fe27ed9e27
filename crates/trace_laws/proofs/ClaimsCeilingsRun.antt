-- The ceilings on a run, for its answer, for the marks that it leaves, and for what start sets.
-- Assumes nothing.
use Prim.Native.Nat.{ℕ, ◌+◌, ◌*◌, ◌≤◌}
use native.Mathlib.Omega.{arith}
use mathlib.Core.List.{List}
use mathlib.Core.Path.{◌≡◌, sym, ap, subst, ◌∙◌}
use lib.ListN.{length, get_or}
use Rattle.instruction.proofs.Accepting.{passed, ended}
use Rattle.instruction.specs.Answer.{accepted}
use Rattle.instruction.specs.declared.mode.Mode.{Mode}
use Rattle.reach.specs.Mark.{IsTraced}
use Rattle.reach.specs.Pins.{table}
use Rattle.reach.proofs.Distinct.{fresh_distinct}
use Rattle.reach.proofs.Run.{run_ending}
use Rattle.reach.proofs.RunNotes.{run_noting}
use Rattle.reach.proofs.Table.{table_base}
use Rattle.marks.specs.Tracer.{tracer_of}
use Rattle.trace.specs.Run.{RunResult, outcome_of, run_answer, run_marks}
use Rattle.trace.specs.Start.{start_answer}
use Rattle.trace_laws.specs.ClaimsCeilings as claims
use Rattle.trace_laws.proofs.CeilingsOf.{below, tied, long, full}
use Rattle.trace_laws.proofs.ClaimsImagesOrder.{began}
use Rattle.trace_laws.proofs.Finished as finish

-- start sets the distinct entries
pub start_distinct : claims.StartDistinct
unfolding start_answer
start_distinct image marks entries pins k e =
    let s = began image marks entries pins k e in
    sym (ended _ (passed _ _ _ (passed _ _ _ e).1).1) ∙ fresh_distinct (length image) entries pins marks s.room

-- the marks that an accepted run leaves: as many 2 and 3 as it answers steps
module _ (mode : Mode) (image marks order entries pins : List ℕ) (limit : ℕ) (s : RunResult)
    (a : run_answer mode image marks order entries pins limit ≡ accepted s) where
  room : length image ≤ length marks
  room = finish.covered mode image marks order entries pins limit (finish.sized mode image marks order entries pins limit s a)

  pub run_small : length image ≤ 65536
  run_small = finish.short_image mode image marks order entries pins limit (finish.sized mode image marks order entries pins limit s a)

  pub run_long : length image ≤ length (run_marks mode image marks order entries pins limit)
  run_long = rw (finish.marks_are mode image marks order entries pins limit s a) (long mode image marks entries pins limit room)

  pub run_tied : claims.traced_marks image (run_marks mode image marks order entries pins limit) ≡ s.steps
  run_tied =
      ap (claims.traced_marks image) (finish.marks_are mode image marks order entries pins limit s a) ∙ tied mode image marks entries pins limit room
      ∙ sym (finish.counts_are mode image marks order entries pins limit s a).0

pub run_ceilings : claims.RunCeilings
run_ceilings mode image marks order entries pins limit s a =
    let l = room mode image marks order entries pins limit s a in
    let c = finish.counts_are mode image marks order entries pins limit s a in
    rw (c.0, c.1) (below mode image marks entries pins limit l)

pub any_run_ceilings : claims.AnyRunCeilings
any_run_ceilings mode image marks order entries pins limit j =
    let l = finish.covered mode image marks order entries pins limit j in
    rw (finish.marks_left mode image marks order entries pins limit j, tied mode image marks entries pins limit l)
    (below mode image marks entries pins limit l)

pub noted_full : claims.NotedFull
noted_full mode image marks order entries pins limit j e q h t =
    let l = finish.covered mode image marks order entries pins limit j in
    let x = finish.marks_left mode image marks order entries pins limit j in
    full mode image marks entries pins limit l
    (e ∙ ap (λ (k : ℕ). claims.distinct_entries image entries pins + 2 * k) (ap (claims.traced_marks image) x ∙ tied mode image marks entries pins limit l))
    q h (subst (λ (m : List ℕ). IsTraced (get_or m q 0)) x t)

pub finished_below : claims.FinishedBelow
unfolding outcome_of
finished_below mode image marks order entries pins limit s a f =
    let l = room mode image marks order entries pins limit s a in
    let G = tracer_of mode image in
    let base = table (length image) pins marks in
    let B = table_base G pins marks l in
    let c = finish.counts_are mode image marks order entries pins limit s a in
    let x = (run_noting limit G entries base B).sum in
    let y = ap length ((run_ending limit G entries base B).when_finished (finish.ended mode image marks order entries pins limit s a f)).1 in
    let same : s.noted ≡ s.steps = omega (arith, c.0, c.1, x, y) in
    (same, λ e. omega (arith, e, same))
