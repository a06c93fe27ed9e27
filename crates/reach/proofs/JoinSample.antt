-- Entry lists joined, over tracers of numbers, computed (request W9). Assumes nothing.
use Prim.Native.Nat.{ℕ}
use mathlib.Core.Bool.{false, not}
use mathlib.Core.Path.{◌≡◌, refl}
use mathlib.Core.List.{List, [], ◌∷◌}
use lib.Dec.{eqb}
use lib.ListN.{get_or}
use Rattle.reach.specs.Mark.{traced_mark}
use Rattle.reach.specs.Note.{is_open, note, fresh}
use Rattle.reach.specs.Tracer.{Tracer, targets, mark, took, found}
use Rattle.reach.specs.Run.{finished, run_from, run_of}
use Rattle.reach.specs.Sweep.{can_take, swept_at, sweep_from, sweep_taken_from, sweep_once, sweep_taken, sweep_marks, swept_marks}
use Rattle.reach.proofs.Sample.{flash_call}

-- 0 leads to 1 and 1 to 4, 2 leads to 3, and 3, which is cut off, to none
abbrev two_ways : Tracer
two_ways = record {
  size = 5;
  fits = λ p. not (eqb p 3);
  ways = λ p. get_or ((1 ∷ []) ∷ (4 ∷ []) ∷ (3 ∷ []) ∷ [] ∷ [] ∷ []) p [];
  exempt = λ m p. false;
}

-- the marks that sweeps from these entries leave, where 4 is pinned in the base
abbrev left : List ℕ → List ℕ
left entries = swept_marks two_ways (note 5 entries (0 ∷ 0 ∷ 0 ∷ 0 ∷ 4 ∷ []))

-- the first list traces 0 and 1, the second 2, and 3 is left waiting; joined, in either order, all of that
joins : (left (0 ∷ []) ≡ 2 ∷ 2 ∷ 0 ∷ 0 ∷ 4 ∷ []) × (left (2 ∷ []) ≡ 0 ∷ 0 ∷ 2 ∷ 1 ∷ 4 ∷ [])
    × (left (0 ∷ 2 ∷ []) ≡ 2 ∷ 2 ∷ 2 ∷ 1 ∷ 4 ∷ []) × (left (2 ∷ 0 ∷ []) ≡ 2 ∷ 2 ∷ 2 ∷ 1 ∷ 4 ∷ [])
unfolding swept_marks sweep_marks sweep_once sweep_taken sweep_from sweep_taken_from swept_at can_take took targets mark note is_open traced_mark
joins = (refl, refl, refl, refl)

-- nothing traced is nothing added, and a list joined to itself is the list
nothing_more : (left [] ≡ 0 ∷ 0 ∷ 0 ∷ 0 ∷ 4 ∷ []) × (left (2 ∷ 2 ∷ []) ≡ left (2 ∷ []))
unfolding swept_marks sweep_marks sweep_once sweep_taken sweep_from sweep_taken_from swept_at can_take took targets mark note is_open traced_mark
nothing_more = (refl, refl)

-- under the exception the order of the lists matters: joined as 0, 2 the Jmpf at 2 is not followed, joined as 2, 0 it is
abbrev flash_run : List ℕ → List ℕ
flash_run entries = (run_of 5 (record { size = 5; fits = flash_call.fits; ways = λ p. get_or ((2 ∷ []) ∷ [] ∷ (4 ∷ []) ∷ []) p []; exempt = flash_call.exempt })
    entries (0 ∷ 0 ∷ 0 ∷ 0 ∷ 0 ∷ [])).marks

fails : (flash_run (0 ∷ []) ≡ 2 ∷ 0 ∷ 3 ∷ 0 ∷ 0 ∷ []) × (flash_run (2 ∷ []) ≡ 0 ∷ 0 ∷ 2 ∷ 0 ∷ 2 ∷ [])
    × (flash_run (0 ∷ 2 ∷ []) ≡ 2 ∷ 0 ∷ 3 ∷ 0 ∷ 0 ∷ []) × (flash_run (2 ∷ 0 ∷ []) ≡ 2 ∷ 0 ∷ 2 ∷ 0 ∷ 2 ∷ [])
unfolding run_of run_from took found targets mark note fresh is_open traced_mark
fails = (refl, refl, refl, refl)
