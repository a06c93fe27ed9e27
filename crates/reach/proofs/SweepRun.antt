-- With no exception the sweeps end in the marks of every order, so of a finished run, and leave a position waiting where a run is cut off.
-- Assumes nothing.
use mathlib.Core.Path.{◌≡◌, refl}
use Rattle.reach.specs.Run.{End, finished, stopped, cut_off, run_of}
use Rattle.reach.specs.ClaimsSweep.{sweeps_of, SweepsFinal, SweepsSame, SweepsRun, SweepsWait, SweepsNoneWait}
use Rattle.reach.proofs.Order.{any_order, same_marks}
use Rattle.reach.proofs.Run.{run_ending, run_to_end}
use Rattle.reach.proofs.Cut.{cut_leaves}
use Rattle.reach.proofs.SweepTakes.{sweeps_to_end}

pub sweeps_final : SweepsFinal
sweeps_final fuel G entries base P B h =
    any_order G P base entries (sweeps_of fuel G entries base) B (sweeps_to_end fuel G entries base B h)

pub sweeps_same : SweepsSame
sweeps_same fuel G entries base m P B h T =
    same_marks G P base entries (sweeps_of fuel G entries base) m B (sweeps_to_end fuel G entries base B h) T

pub sweeps_run : SweepsRun
sweeps_run fuel limit G entries base P B h e =
    sweeps_same fuel G entries base (run_of limit G entries base).marks P B h (run_to_end limit G entries base B e)

pub sweeps_wait : SweepsWait
sweeps_wait fuel limit G entries base P B h enough =
    cut_leaves limit G P entries base (sweeps_of fuel G entries base) B enough (sweeps_to_end fuel G entries base B h)

pub sweeps_none_wait : SweepsNoneWait
sweeps_none_wait fuel limit G entries base P B h enough n =
    let e = by (run_of limit G entries base).end refl in (e, sweeps_run fuel limit G entries base P B h e)
  where
    by : (x : End) → (run_of limit G entries base).end ≡ x → (run_of limit G entries base).end ≡ finished
    by finished e = e
    by stopped e = absurd ((run_ending limit G entries base B).enough enough e)
    by (cut_off p) e = absurd (n ((sweeps_wait fuel limit G entries base P B h enough).1 (p, e)))
