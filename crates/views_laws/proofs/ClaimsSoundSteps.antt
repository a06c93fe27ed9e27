-- What start, accepted steps and sweeps leave is not damaged: each takes positions up, and no taking up damages a mark.
-- Assumes nothing.
use Prim.Native.Nat.{ℕ, suc}
use native.Mathlib.Omega.{arith}
use mathlib.Core.List.{List}
use mathlib.Core.Path.{sym, subst}
use lib.ListN.{length}
use Rattle.reach.specs.Note.{note}
use Rattle.reach.proofs.Note.{length_note}
use Rattle.reach.proofs.SweepTakes.{sweeps_take}
use Rattle.reach.specs.Pins.{table}
use Rattle.reach.proofs.Table.{length_table}
use Rattle.marks.specs.Tracer.{tracer_of}
use Rattle.trace_laws.specs.ClaimsImages.{stay, further}
use Rattle.trace_laws.proofs.Accepted.{went}
use Rattle.trace_laws.proofs.ClaimsImagesOrder.{began}
use Rattle.trace_laws.proofs.ClaimsSweepsImages.{leaves_sweeps, small_image, long_marks}
use Rattle.views.specs.View.{damaged_here}
use Rattle.views_laws.specs.ClaimsSound.{Undamaged, StartUndamaged, StepUndamaged, StepsUndamaged, SweepUndamaged}
use Rattle.views_laws.proofs.ClaimsSoundRun.{step_good, takes_good, start_good}

pub start_undamaged : StartUndamaged
unfolding damaged_here
start_undamaged image marks entries pins k e =
    let s = began image marks entries pins k e in
    subst (Undamaged image) (sym s.marks_are) (start_good image marks entries pins s.room)

pub step_undamaged : StepUndamaged
unfolding damaged_here
step_undamaged mode image m p s u e =
    let w = went mode image m p s e in subst (Undamaged image) (sym w.marks) (step_good mode image m p w.room w.ready u)

pub steps_undamaged : StepsUndamaged
steps_undamaged mode image m ps m' u stay = u
steps_undamaged mode image m ps m' u (further {p = p} {s = s} e rest) =
    steps_undamaged mode image _ _ m' (step_undamaged mode image m p s u e) rest

pub sweep_undamaged : SweepUndamaged
unfolding damaged_here
sweep_undamaged mode image marks entries pins s e =
    let room = long_marks mode image marks entries pins s e in
    let begun : List ℕ = note (length image) entries (table (length image) pins marks) in
    let l = length_note (length image) entries (table (length image) pins marks) in
    subst (Undamaged image) (sym (leaves_sweeps mode image marks entries pins (small_image mode image marks entries pins s e) room))
    (takes_good mode image (omega (arith, l, length_table (length image) pins marks room))
    (sweeps_take (tracer_of mode image) (suc (length image)) begun (omega (arith, l, length_table (length image) pins marks room))).takes
    (start_good image marks entries pins room))
