-- Claim: with no exception and enough steps, a run is cut off exactly where every other order leaves a position waiting (request W6).
-- Proved in proofs/Cut.antt. Assumes nothing.
use Rattle.std.specs.Prelude.{ℕ, ◌<◌, ◌≤◌, ◌≡◌, ◌↔◌, List, get_or}
use Rattle.reach.specs.Mark.{waiting}
use Rattle.reach.specs.Tracer.{Tracer}
use Rattle.reach.specs.Takes.{Base, ToEnd}
use Rattle.reach.specs.Run.{cut_off, run_of}
use Rattle.reach.specs.ClaimsOrder.{Plain}

-- some position inside waits
abbrev pub SomeWaits : Tracer → List ℕ → Type 0
SomeWaits G m = (q : ℕ) × (q < G.size) × (get_or m q 0 ≡ waiting)

-- the run is cut off at some position
abbrev pub SomeCut : ℕ → Tracer → List ℕ → List ℕ → Type 0
SomeCut limit G entries base = (p : ℕ) × ((run_of limit G entries base).end ≡ cut_off p)

abbrev pub CutLeaves : Type 0
CutLeaves =
    (limit : ℕ) (G : Tracer) → Plain G → (entries base m : List ℕ) → Base G base → G.size ≤ limit → ToEnd G base entries m
    → SomeWaits G m ↔ SomeCut limit G entries base
