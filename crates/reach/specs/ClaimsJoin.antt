-- Claims: entry lists joined (request W9). Proved in proofs/Join.antt. Assumes nothing.
use Rattle.std.specs.Prelude.{ℕ, ◌<◌, ◌≡◌, ◌⊎◌, ◌↔◌, get_or}
use mathlib.Core.List.{List, ◌++◌, Memᴰ as Among}
use Rattle.reach.specs.Tracer.{Tracer}
use Rattle.reach.specs.Mark.{waiting, IsTraced}
use Rattle.reach.specs.Takes.{Base, ToEnd}
use Rattle.reach.specs.ClaimsOrder.{Plain}

-- a mark that says waiting
abbrev pub IsWaiting : ℕ → Type 0
IsWaiting v = v ≡ waiting

-- the marks m for two lists joined, m₁ for the first and m₂ for the second: a position's mark is of this kind exactly when it is for the first
-- or for the second
abbrev pub Joined : (ℕ → Type 0) → List ℕ → List ℕ → List ℕ → ℕ → Type 0
Joined Is m₁ m₂ m q = Is (get_or m q 0) ↔ (Is (get_or m₁ q 0) ⊎ Is (get_or m₂ q 0))

-- so it is for traced, and for waiting
abbrev pub JoinedEntries : Type 0
JoinedEntries =
    (G : Tracer) → Plain G → (base e₁ e₂ m₁ m₂ m : List ℕ) → Base G base
    → ToEnd G base e₁ m₁ → ToEnd G base e₂ m₂ → ToEnd G base (e₁ ++ e₂) m
    → (q : ℕ) → q < G.size → Joined IsTraced m₁ m₂ m q × Joined IsWaiting m₁ m₂ m q

-- the same positions stand in both lists
abbrev pub SamePositions : List ℕ → List ℕ → Type 0
SamePositions e e' = (q : ℕ) → Among q e ↔ Among q e'

-- lists of the same entries end in the same marks: their order, an empty list joined and a list joined to itself change nothing
abbrev pub SameEntries : Type 0
SameEntries =
    (G : Tracer) → Plain G → (base e e' m m' : List ℕ) → Base G base → SamePositions e e' → ToEnd G base e m → ToEnd G base e' m' → m ≡ m'
