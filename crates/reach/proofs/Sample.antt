-- Document 01's edge 12 over a tracer of numbers: at 0 the way is to 2, at 2 to 0, and 2 is under the exception where 0 is traced.
-- Assumes nothing.
use mathlib.Core.Bool.{true, ◌&&◌}
use mathlib.Core.Path.{◌≡◌, refl}
use mathlib.Core.List.{[], ◌∷◌}
use lib.ListN.{get_or}
use lib.Dec.{eqb}
use Rattle.reach.specs.Mark.{traced_mark, cleared}
use Rattle.reach.specs.Note.{is_open, note, fresh}
use Rattle.reach.specs.Tracer.{Tracer, targets, mark, took, found}
use Rattle.reach.specs.Run.{finished, stopped, run_from, run_of}

abbrev pub flash_call : Tracer
flash_call = record {
  size = 5;
  fits = λ p. true;
  ways = λ p. get_or ((2 ∷ []) ∷ [] ∷ (0 ∷ []) ∷ []) p [];
  exempt = λ m p. eqb p 2 && traced_mark (get_or m 0 0);
}

-- entry 0: order 0, 2, mark 3 at 2; entries outside and repeated are skipped, a mark beyond the image stays
entry_0 : run_of 65536 flash_call (0 ∷ 0 ∷ 7 ∷ []) (cleared 5 (9 ∷ 9 ∷ 9 ∷ 9 ∷ 9 ∷ 9 ∷ []))
    ≡ record { end = finished; taken = 0 ∷ 2 ∷ []; left = []; marks = 2 ∷ 0 ∷ 3 ∷ 0 ∷ 0 ∷ 9 ∷ [] }
unfolding run_of run_from took found targets mark note fresh is_open traced_mark cleared
entry_0 = refl

-- entry 2: order 2, 0, mark 2 at 2
entry_2 : run_of 65536 flash_call (2 ∷ []) (cleared 5 (9 ∷ 9 ∷ 9 ∷ 9 ∷ 9 ∷ 9 ∷ []))
    ≡ record { end = finished; taken = 2 ∷ 0 ∷ []; left = []; marks = 2 ∷ 0 ∷ 2 ∷ 0 ∷ 0 ∷ 9 ∷ [] }
unfolding run_of run_from took found targets mark note fresh is_open traced_mark cleared
entry_2 = refl

-- one step only: 0 is noted and left
entry_2_once : run_of 1 flash_call (2 ∷ []) (cleared 5 (9 ∷ 9 ∷ 9 ∷ 9 ∷ 9 ∷ 9 ∷ []))
    ≡ record { end = stopped; taken = 2 ∷ []; left = 0 ∷ []; marks = 1 ∷ 0 ∷ 2 ∷ 0 ∷ 0 ∷ 9 ∷ [] }
unfolding run_of run_from took found targets mark note fresh is_open traced_mark cleared
entry_2_once = refl
