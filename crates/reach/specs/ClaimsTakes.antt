-- Claims: every sequence of takings is short, takes no position twice, and can be led to an end (demand 3).
-- Proved in proofs/Takes.antt, proofs/TakesOnce.antt and proofs/CanEnd.antt. Assumes nothing.
use Rattle.std.specs.Prelude.{ℕ, ◌≤◌, ◌≡◌, List, length}
use Rattle.reach.specs.Tracer.{Tracer, took, targets, held}
use Rattle.reach.specs.Takes.{Ready, Takes, Ended, Once}

-- at most as many are taken up as the image is long
abbrev pub TakesBound : Type 0
TakesBound = (G : Tracer) (m m' ps : List ℕ) → G.size ≤ length m → Takes G m ps m' → length ps ≤ G.size

-- none is taken up twice
abbrev pub TakesOnce : Type 0
TakesOnce = (G : Tracer) (m m' ps : List ℕ) → G.size ≤ length m → Takes G m ps m' → Once ps

-- from every table an end can be reached
abbrev pub CanEnd : Type 0
CanEnd = (G : Tracer) (m : List ℕ) → G.size ≤ length m → (ps : List ℕ) × (m' : List ℕ) × Takes G m ps m' × Ended G m'

-- what a traced position's mark says of its targets is what they were when it was taken up, however it went on
abbrev pub TargetsHeld : Type 0
TargetsHeld =
    (G : Tracer) (m m' ps : List ℕ) (p : ℕ) → G.size ≤ length m → Ready G m p → Takes G (took G m p) ps m' → held G m' p ≡ targets G m p
