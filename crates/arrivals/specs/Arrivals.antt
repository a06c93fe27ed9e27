-- Arrivals. Document 01, 'Views': at p, ascending, each traced position with p among the targets it had when taken up (mark 3: none). None if
-- p is not inside.
-- Assumes nothing.
use Rattle.std.specs.Prelude.{ℕ, ◌-◌, Bool, cond, ◌&&◌, List, [], ◌∷◌, eqb, ltb, length}
use Rattle.instruction.specs.Answer.{Answer}
use Rattle.instruction.specs.declared.mode.Mode.{Mode}
use Rattle.views.specs.View.{view_answer, view_room}
use Rattle.targets.specs.Ways.{is_whole}
use Rattle.reach.specs.Tracer.{held}
use Rattle.marks.specs.Tracer.{tracer_of}
use Rattle.views.specs.Positions.{up_from, positions, some, kept, traced_at}

-- the targets that the traced position q had when it was taken up. No step takes up an instruction that is cut off, nor any in an image
-- past its limit
unfoldable pub held_at : Mode → List ℕ → List ℕ → ℕ → List ℕ
held_at mode image m q = cond (traced_at image m q && is_whole image q) (held (tracer_of mode image) m q) []

-- p is inside, and among the targets that q had
unfoldable pub arrives : Mode → List ℕ → List ℕ → ℕ → ℕ → Bool
arrives mode image m p q = ltb p (length image) && some (eqb p) (held_at mode image m q)

unfoldable pub arrivals_of : Mode → List ℕ → List ℕ → ℕ → List ℕ
arrivals_of mode image m p = kept (arrives mode image m p) (positions image)

-- what the view answers, and what it leaves in the room
abbrev pub arrivals_answer : Mode → List ℕ → List ℕ → ℕ → List ℕ → Answer ℕ
arrivals_answer mode image m p room = view_answer image m (arrivals_of mode image m p) room

abbrev pub arrivals_room : Mode → List ℕ → List ℕ → ℕ → List ℕ → List ℕ
arrivals_room mode image m p room = view_room image m (arrivals_of mode image m p) room

-- the first of these positions, or else n
abbrev pub first_or : ℕ → List ℕ → ℕ
first_or n [] = n
first_or n (q ∷ qs) = q

-- the lowest arrival at p from q on; where there is none 65,536, which is outside every image
unfoldable pub next_arrival : Mode → List ℕ → List ℕ → ℕ → ℕ → ℕ
next_arrival mode image m p q = first_or 65536 (kept (arrives mode image m p) (up_from (length image - q) q))
