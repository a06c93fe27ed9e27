-- The byte mask. Document 01, 'Views': 1 on each byte of a traced instruction, else 0.
-- Assumes nothing.
use Rattle.std.specs.Prelude.{ℕ, ◌+◌, Bool, cond, ◌&&◌, List, map, ltb, leb}
use Rattle.instruction.specs.Answer.{Answer}
use Rattle.views.specs.View.{view_answer, view_room}
use Rattle.targets.specs.At.{size_here}
use Rattle.views.specs.Positions.{positions, some, bit, traced_at}

-- b is a byte of the instruction at p
abbrev pub under : List ℕ → ℕ → ℕ → Bool
under image b p = leb p b && ltb b (p + size_here image p)

-- b is a byte of the instruction at the traced position p
abbrev pub covers : List ℕ → List ℕ → ℕ → ℕ → Bool
covers image m b p = traced_at image m p && under image b p

-- of an inner function: where the code that begins up to p ends, if that before p ends at e
abbrev pub end_with : List ℕ → List ℕ → ℕ → ℕ → ℕ
end_with image m p e = cond (traced_at image m p && ltb e (p + size_here image p)) (p + size_here image p) e

unfoldable pub masked : List ℕ → List ℕ → ℕ → Bool
masked image m b = some (covers image m b) (positions image)

unfoldable pub mask_of : List ℕ → List ℕ → List ℕ
mask_of image m = map (λ (b : ℕ). bit (masked image m b)) (positions image)

-- what building it answers, and what it leaves in the room
abbrev pub mask_answer : List ℕ → List ℕ → List ℕ → Answer ℕ
mask_answer image m room = view_answer image m (mask_of image m) room

abbrev pub mask_room : List ℕ → List ℕ → List ℕ → List ℕ
mask_room image m room = view_room image m (mask_of image m) room
