-- A tracer, and one position taken up by it (document 01, "Targets" and "Marks and steps"). It knows no byte. Assumes nothing.
use Rattle.std.specs.Prelude.{ℕ, Bool, cond, List, [], get_or, set, eqb}
use Rattle.reach.specs.Mark.{traced, flash}
use Rattle.reach.specs.Note.{note, fresh}

-- The image's length; which positions' instruction is not cut off; the targets of the instruction at a position, in document 01's order,
-- one outside the image being any number from the length on; and whether these marks put the position under the exception
pub record Tracer : Type 0 where
  pub size : ℕ
  pub fits : ℕ → Bool
  pub ways : ℕ → List ℕ
  pub exempt : List ℕ → ℕ → Bool

-- the targets of p where these are the marks: none under the exception
unfoldable pub targets : Tracer → List ℕ → ℕ → List ℕ
targets G m p = cond (G.exempt m p) [] (G.ways p)

-- the mark that p gets where these are the marks
unfoldable pub mark : Tracer → List ℕ → ℕ → ℕ
mark G m p = cond (G.exempt m p) flash traced

-- "takes one waiting position: it becomes 2 or 3, and each target inside the image with mark 0 becomes 1": the marks afterwards
unfoldable pub took : Tracer → List ℕ → ℕ → List ℕ
took G m p = note G.size (targets G m p) (set m p (mark G m p))

-- and the positions that became 1, in their order
unfoldable pub found : Tracer → List ℕ → ℕ → List ℕ
found G m p = fresh G.size (targets G m p) (set m p (mark G m p))

-- the targets that a traced position had when it was taken up, read from its mark ("mark 3: none")
unfoldable pub held : Tracer → List ℕ → ℕ → List ℕ
held G m p = cond (eqb (get_or m p 0) flash) [] (G.ways p)
