-- Of the function by which step, run and sweep take a position up, which is handed its targets: serves these three alone. Document 01,
-- 'Marks and steps'.
-- Assumes nothing.
use Rattle.std.specs.Prelude.{ℕ, List, ◌≡◌, length}
use Rattle.targets.specs.At.{fits_here}
use Rattle.targets.specs.Ways.{places_in}
use Rattle.reach.specs.Tracer.{Tracer, mark, took, found}
use Rattle.marks.specs.Tracer.{exempt_here}
use Rattle.marks.specs.declared.take.Taken.{Taken}

-- the tracer of an image where the instruction at hand has these targets
abbrev pub going_to : List ℕ → List ℕ → Tracer
going_to image ts = record { size = length image; fits = fits_here image; ways = λ p. ts; exempt = exempt_here image }

-- the position p taken up, with the marks m before and m' after: its mark, what it found, and the marks
pub record TakenUp (G : Tracer) (m : List ℕ) (p : ℕ) (r : Taken) (m' : List ℕ) : Type 0 where
  pub mark_is : r.mark ≡ mark G m p
  pub noted_are : places_in r.noted ≡ found G m p
  pub marks_are : m' ≡ took G m p
