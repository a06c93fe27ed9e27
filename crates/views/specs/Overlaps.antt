-- Overlaps. Document 01, 'Views': at a traced p, p - 1 if traced with size at least 2, then traced p + 1 up to its last byte. Nothing
-- further back. Elsewhere: none.
-- Assumes nothing.
use Rattle.std.specs.Prelude.{ℕ, ◌+◌, ◌-◌, Bool, cond, ◌&&◌, List, [], ◌∷◌, ◌++◌, leb, length, Option, Some, None}
use Rattle.instruction.specs.Answer.{Answer}
use Rattle.views.specs.View.{view_answer, view_room}
use Rattle.targets.specs.At.{size_here}
use Rattle.views.specs.Positions.{up_from, kept, traced_at}
use Rattle.views.specs.declared.overlaps.Overlaps.{Overlaps}
use Rattle.views.specs.declared.overlaps.Overlaps.TheVariants.{Nothing, One, Two, Three}

-- the instruction at p - 1 has p for its second byte
abbrev pub from_before : List ℕ → List ℕ → ℕ → Bool
from_before image m p = leb 1 p && (traced_at image m (p - 1) && leb 2 (size_here image (p - 1)))

-- an image past its limit has none
unfoldable pub overlaps_of : List ℕ → List ℕ → ℕ → List ℕ
overlaps_of image m p =
    cond (leb (length image) 65536 && traced_at image m p)
    (cond (from_before image m p) ((p - 1) ∷ []) [] ++ kept (traced_at image m) (up_from (size_here image p - 1) (p + 1))) []

-- what the view answers, and what it leaves in the room
abbrev pub overlaps_answer : List ℕ → List ℕ → ℕ → List ℕ → Answer ℕ
overlaps_answer image m p room = view_answer image m (overlaps_of image m p) room

abbrev pub overlaps_room : List ℕ → List ℕ → ℕ → List ℕ → List ℕ
overlaps_room image m p room = view_room image m (overlaps_of image m p) room

-- of an inner function: a position, or none
abbrev pub position_in : Option ℕ → List ℕ
position_in None = []
position_in (Some q) = q ∷ []

-- at most three positions, in their order
abbrev pub overlaps_in : Overlaps → List ℕ
overlaps_in Nothing = []
overlaps_in (One a) = a ∷ []
overlaps_in (Two a b) = a ∷ b ∷ []
overlaps_in (Three a b c) = a ∷ b ∷ c ∷ []
