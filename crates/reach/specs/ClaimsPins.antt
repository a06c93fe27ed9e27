-- Claims: what is not open in the base is never touched; so pinned positions (request W8). Proved in proofs/Pins.antt. Assumes nothing.
use Rattle.std.specs.Prelude.{ℕ, ◌<◌, ◌≡◌, get_or}
use mathlib.Core.List.{List, Memᴰ as Among}
use Rattle.reach.specs.Note.{Open, note}
use Rattle.reach.specs.Tracer.{Tracer}
use Rattle.reach.specs.Takes.{Takes, Base}
use Rattle.reach.specs.Reach.{Reach}
use Rattle.reach.specs.Pins.{pinned, pin}

-- a table to start from is one still with pins
abbrev pub PinnedBase : Type 0
PinnedBase = (G : Tracer) (pins base : List ℕ) → Base G base → Base G (pin G.size pins base)

-- a position that is not open in the base keeps its mark, whatever is taken up
abbrev pub ShutStays : Type 0
ShutStays =
    (G : Tracer) (base entries ps m : List ℕ) → Base G base → Takes G (note G.size entries base) ps m
    → (q : ℕ) → (Open G.size base q → ⊥) → get_or m q 0 ≡ get_or base q 0

-- a pinned position inside, entry or target, keeps mark 4, and is not reachable
abbrev pub PinnedStays : Type 0
PinnedStays =
    (G : Tracer) (pins base entries ps m : List ℕ) → Base G base → Takes G (note G.size entries (pin G.size pins base)) ps m
    → (q : ℕ) → Among q pins → q < G.size
    → (get_or m q 0 ≡ pinned) × ((follow : ℕ → List ℕ) → Reach G follow (pin G.size pins base) entries q → ⊥)
