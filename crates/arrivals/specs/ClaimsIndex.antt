-- Who arrives at p names it or goes on to it, and the index has those who name it. Document 01, 'Views'.
-- Assumes nothing.
use Rattle.std.specs.Prelude.{ℕ, ◌+◌, ◌<◌, ◌≤◌, true, ◌||◌, List, ◌≡◌, length, get_or}
use Rattle.instruction.specs.declared.mode.Mode.{Mode}
use Rattle.arrivals.specs.Arrivals.{arrives}
use Rattle.arrivals.specs.Index.{names_it, names_held, falls_from, next_namer, index_of, first_in, next_in}

-- of an image of bytes within its limit
abbrev pub OfBytes : List ℕ → Type 0
OfBytes image = ((i : ℕ) → get_or image i 0 < 256) × (length image ≤ 65536)

-- at every position of the image
abbrev pub ArrivesTwoWays : Type 0
ArrivesTwoWays =
    (mode : Mode) (image m : List ℕ) (p q : ℕ) → OfBytes image → p < length image
    → arrives mode image m p q ≡ (names_held mode image m p q || falls_from mode image m p q)

abbrev pub FirstIndexed : Type 0
FirstIndexed =
    (mode : Mode) (image m : List ℕ) (p : ℕ) → OfBytes image → p < length image
    → first_in (index_of mode image m) p ≡ next_namer mode image m p 0

-- after every q that names p
abbrev pub NextIndexed : Type 0
NextIndexed =
    (mode : Mode) (image m : List ℕ) (p q : ℕ) → OfBytes image → q < length image → names_it mode image m p q ≡ true
    → next_in (index_of mode image m) q ≡ next_namer mode image m p (q + 1)
