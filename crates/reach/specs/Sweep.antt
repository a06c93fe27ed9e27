-- Sweeping (document 02, W6; document 01, "Marks and steps"): the marks are passed over upward, and every waiting position that is met and
-- not cut off is taken up; and again, until a sweep takes none. Assumes nothing.
use Rattle.std.specs.Prelude.{ℕ, zero, suc, ◌+◌, Bool, cond, ◌&&◌, List, get_or, take, eqb}
use Rattle.reach.specs.Mark.{waiting, traced_mark, count}
use Rattle.reach.specs.Tracer.{Tracer, took}

-- p waits and is not cut off: a sweep that meets it takes it up
unfoldable pub can_take : Tracer → List ℕ → ℕ → Bool
can_take G m p = eqb (get_or m p 0) waiting && G.fits p

-- the marks after p was met
unfoldable pub swept_at : Tracer → List ℕ → ℕ → List ℕ
swept_at G m p = cond (can_take G m p) (took G m p) m

-- the marks after k positions were met, from p upward: what became waiting ahead is met in the same sweep
unfoldable pub sweep_from : Tracer → ℕ → ℕ → List ℕ → List ℕ
sweep_from G zero p m = m
sweep_from G (suc k) p m = sweep_from G k (suc p) (swept_at G m p)

-- and how many of them were taken up
unfoldable pub sweep_taken_from : Tracer → ℕ → ℕ → List ℕ → ℕ
sweep_taken_from G zero p m = 0
sweep_taken_from G (suc k) p m = cond (can_take G m p) 1 0 + sweep_taken_from G k (suc p) (swept_at G m p)

-- one sweep over all positions: the marks afterwards, and how many it took
unfoldable pub sweep_once : Tracer → List ℕ → List ℕ
sweep_once G m = sweep_from G G.size 0 m

unfoldable pub sweep_taken : Tracer → List ℕ → ℕ
sweep_taken G m = sweep_taken_from G G.size 0 m

abbrev pub takes_none : Tracer → List ℕ → Bool
takes_none G m = eqb (sweep_taken G m) 0

-- the marks 2 and 3
abbrev pub traced_in : Tracer → List ℕ → ℕ
traced_in G m = count traced_mark (take G.size m)

-- sweeps repeated until one takes none, at most `most` of them: the marks afterwards
unfoldable pub sweep_marks : Tracer → ℕ → List ℕ → List ℕ
sweep_marks G zero m = m
sweep_marks G (suc most) m = cond (takes_none G m) m (sweep_marks G most (sweep_once G m))

-- and how many sweeps that took, the last one counted
unfoldable pub sweep_count : Tracer → ℕ → List ℕ → ℕ
sweep_count G zero m = 0
sweep_count G (suc most) m = suc (cond (takes_none G m) 0 (sweep_count G most (sweep_once G m)))

-- one sweep more than there are positions: more than these change nothing (`SweepsEnough`)
abbrev pub enough : Tracer → ℕ
enough G = suc G.size

-- the marks that the sweeps end in, their number, and the steps, which are the marks 2 and 3 afterwards
unfoldable pub swept_marks : Tracer → List ℕ → List ℕ
swept_marks G m = sweep_marks G (enough G) m

unfoldable pub sweeps : Tracer → List ℕ → ℕ
sweeps G m = sweep_count G (enough G) m

unfoldable pub swept_steps : Tracer → List ℕ → ℕ
swept_steps G m = traced_in G (swept_marks G m)
