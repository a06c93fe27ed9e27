-- Sweeps over tracers of numbers, computed: what lies ahead is taken in the same sweep, what lies behind in the next, what is cut off never.
-- Assumes nothing.
use Prim.Native.Nat.{ℕ}
use mathlib.Core.Bool.{false, not}
use mathlib.Core.Path.{◌≡◌, refl}
use mathlib.Core.List.{List, [], ◌∷◌}
use lib.Dec.{eqb}
use Rattle.reach.specs.Mark.{traced_mark, count}
use Rattle.reach.specs.Note.{is_open, note}
use Rattle.reach.specs.Tracer.{Tracer, targets, mark, took}
use Rattle.reach.specs.Sweep.{can_take, swept_at, sweep_from, sweep_taken_from, sweep_once, sweep_taken, sweep_marks, sweep_count, swept_marks, sweeps, swept_steps}
use Rattle.reach.proofs.Sample.{flash_call}

-- the marks, the sweeps and the steps
abbrev Comes : Tracer → List ℕ → List ℕ → ℕ → ℕ → Type 0
Comes G m m' s t = (swept_marks G m ≡ m') × (sweeps G m ≡ s) × (swept_steps G m ≡ t)

-- from 0 the way is ahead
ahead : Comes flash_call (1 ∷ 0 ∷ 0 ∷ 0 ∷ 0 ∷ 9 ∷ []) (2 ∷ 0 ∷ 3 ∷ 0 ∷ 0 ∷ 9 ∷ []) 2 2
unfolding swept_marks sweeps swept_steps sweep_marks sweep_count sweep_once sweep_taken sweep_from sweep_taken_from swept_at can_take took targets mark note is_open
    traced_mark count
ahead = (refl, refl, refl)

-- from 2 it is back to 0
behind : Comes flash_call (0 ∷ 0 ∷ 1 ∷ 0 ∷ 0 ∷ 9 ∷ []) (2 ∷ 0 ∷ 2 ∷ 0 ∷ 0 ∷ 9 ∷ []) 3 2
unfolding swept_marks sweeps swept_steps sweep_marks sweep_count sweep_once sweep_taken sweep_from sweep_taken_from swept_at can_take took targets mark note is_open
    traced_mark count
behind = (refl, refl, refl)

-- the way leads to 2, which is cut off
abbrev cut_off : Tracer
cut_off = record { size = 3; fits = λ p. not (eqb p 2); ways = λ p. 2 ∷ []; exempt = λ m p. false }

waits : Comes cut_off (1 ∷ 0 ∷ 0 ∷ []) (2 ∷ 0 ∷ 1 ∷ []) 2 1
unfolding swept_marks sweeps swept_steps sweep_marks sweep_count sweep_once sweep_taken sweep_from sweep_taken_from swept_at can_take took targets mark note is_open
    traced_mark count
waits = (refl, refl, refl)

-- an image of no bytes: one sweep, no step
abbrev nothing : Tracer
nothing = record { size = 0; fits = λ p. false; ways = λ p. []; exempt = λ m p. false }

empty : Comes nothing (1 ∷ []) (1 ∷ []) 1 0
unfolding swept_marks sweeps swept_steps sweep_marks sweep_count sweep_once sweep_taken sweep_from sweep_taken_from swept_at can_take took targets mark note is_open
    traced_mark count
empty = (refl, refl, refl)
