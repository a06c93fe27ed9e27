-- Claims: any order of taking up waiting positions ends in the same marks (demand 3). Proved in proofs/Order.antt. Assumes nothing.
use Rattle.std.specs.Prelude.{ℕ, ◌<◌, ◌≤◌, true, false, ◌≡◌, ◌↔◌, List, length, get_or}
use Rattle.reach.specs.Mark.{waiting, traced, cleared}
use Rattle.reach.specs.Tracer.{Tracer}
use Rattle.reach.specs.Takes.{Base, ToEnd}
use Rattle.reach.specs.Reach.{Reach}

-- no position is ever under the exception
abbrev pub Plain : Tracer → Type 0
Plain G = (m : List ℕ) (p : ℕ) → G.exempt m p ≡ false

-- The final marks: 2 exactly at the reachable positions whose instruction fits, 1 exactly at the other reachable ones, the rest untouched,
-- which is as in the base
pub record Final (G : Tracer) (base entries m : List ℕ) : Type 0 where
  pub two : (q : ℕ) → q < G.size → (get_or m q 0 ≡ traced) ↔ (Reach G G.ways base entries q × (G.fits q ≡ true))
  pub one : (q : ℕ) → q < G.size → (get_or m q 0 ≡ waiting) ↔ (Reach G G.ways base entries q × (G.fits q ≡ false))
  pub others : (q : ℕ) → (Reach G G.ways base entries q → ⊥) → get_or m q 0 ≡ get_or base q 0
  pub long : length m ≡ length base

-- cleared marks are a table to start from
abbrev pub ClearedBase : Type 0
ClearedBase = (G : Tracer) (m : List ℕ) → G.size ≤ length m → Base G (cleared G.size m)

-- every order ends in final marks
abbrev pub AnyOrder : Type 0
AnyOrder = (G : Tracer) → Plain G → (base entries m : List ℕ) → Base G base → ToEnd G base entries m → Final G base entries m

-- there is only one table of final marks
abbrev pub OneFinal : Type 0
OneFinal = (G : Tracer) (base entries m m' : List ℕ) → Final G base entries m → Final G base entries m' → m ≡ m'

-- so any two orders end in the same marks
abbrev pub SameMarks : Type 0
SameMarks =
    (G : Tracer) → Plain G → (base entries m m' : List ℕ) → Base G base → ToEnd G base entries m → ToEnd G base entries m' → m ≡ m'
