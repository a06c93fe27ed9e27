-- A run (document 01, "Marks and steps"): positions are taken up first come, first served. Assumes nothing.
use Rattle.std.specs.Prelude.{ℕ, zero, suc, cond, List, [], ◌∷◌, ◌++◌, length}
use Rattle.std.proofs.lemmas.List.Edits.{sets}
use Rattle.reach.specs.Note.{note, fresh}
use Rattle.reach.specs.Tracer.{Tracer, took, found}

-- how a run ends: nothing waiting; limit used up; the instruction at a position cut off
pub data End : Type 0 where
  finished stopped : End
  cut_off : ℕ → End

-- what a run comes to: its end, the positions taken up, those noted and not taken up, each in their order, and the marks
pub record Outcome : Type 0 where
  pub end : End
  pub taken : List ℕ
  pub left : List ℕ
  pub marks : List ℕ

-- the steps
abbrev pub steps : Outcome → ℕ
steps out = length out.taken

-- the positions noted, in their order
abbrev pub noted : Outcome → List ℕ
noted out = out.taken ++ out.left

-- the lent order list afterwards: the positions noted from its start on; its rest stays
abbrev pub ordered : Outcome → List ℕ → List ℕ
ordered out lent = sets lent 0 (noted out)

-- a run that ends here
abbrev pub halt : End → List ℕ → List ℕ → Outcome
halt e queue m = record { end = e; taken = []; left = queue; marks = m }

-- a run that took p up first
abbrev pub taking_first : ℕ → Outcome → Outcome
taking_first p out = record { end = out.end; taken = p ∷ out.taken; left = out.left; marks = out.marks }

-- The run of at most `limit` steps from the queue and the marks. "Before each step: nothing waiting, finished; limit used up, stopped;
-- instruction cut off, refusal 5." A step takes the queue's first, and puts the positions that it notes at the queue's end.
unfoldable pub run_from : ℕ → Tracer → List ℕ → List ℕ → Outcome
run_from zero G [] m = halt finished [] m
run_from zero G (p ∷ queue) m = halt stopped (p ∷ queue) m
run_from (suc limit) G [] m = halt finished [] m
run_from (suc limit) G (p ∷ queue) m =
    let on = taking_first p (run_from limit G (queue ++ found G m p) (took G m p)) in
    cond (G.fits p) on (halt (cut_off p) (p ∷ queue) m)

-- the run from these entries, noted over the base
unfoldable pub run_of : ℕ → Tracer → List ℕ → List ℕ → Outcome
run_of limit G entries base = run_from limit G (fresh G.size entries base) (note G.size entries base)
