-- Claims: of two tracers that differ in the targets of cut-off instructions alone, one traces as the other does. So the two modes trace alike
-- wherever their targets are alike (document 02, W7). Proved in proofs/Alike.antt and proofs/AlikeSweep.antt. Assumes nothing.
use Rattle.std.specs.Prelude.{ℕ, true, ◌≡◌, List}
use Rattle.reach.specs.Tracer.{Tracer, targets, mark, took, found}
use Rattle.reach.specs.Run.{run_of}
use Rattle.reach.specs.Sweep.{swept_marks, sweeps, swept_steps}

-- the tracer G with the targets w in place of its own
abbrev pub with_ways : Tracer → (ℕ → List ℕ) → Tracer
with_ways G w = record { size = G.size; fits = G.fits; ways = w; exempt = G.exempt }

-- wherever G's instruction fits, w gives it G's targets
abbrev pub SameWays : Tracer → (ℕ → List ℕ) → Type 0
SameWays G w = (p : ℕ) → G.fits p ≡ true → w p ≡ G.ways p

-- taken up by H and by G, p has the same targets and gets the same mark; the marks afterwards and the positions that became 1 are the same
pub record AlikeTaken (H G : Tracer) (m : List ℕ) (p : ℕ) : Type 0 where
  pub alike_targets : targets H m p ≡ targets G m p
  pub alike_mark : mark H m p ≡ mark G m p
  pub alike_took : took H m p ≡ took G m p
  pub alike_found : found H m p ≡ found G m p

-- so it is wherever the instruction fits
abbrev pub AlikeTakings : Type 0
AlikeTakings =
    (G : Tracer) (w : ℕ → List ℕ) → SameWays G w → (m : List ℕ) (p : ℕ) → G.fits p ≡ true → AlikeTaken (with_ways G w) G m p

-- a run comes to the same
abbrev pub AlikeRuns : Type 0
AlikeRuns =
    (limit : ℕ) (G : Tracer) (w : ℕ → List ℕ) → SameWays G w → (entries base : List ℕ)
    → run_of limit (with_ways G w) entries base ≡ run_of limit G entries base

-- and so do sweeps: the marks that they end in, their number, and the steps
pub record AlikeSwept (H G : Tracer) (m : List ℕ) : Type 0 where
  pub alike_marks : swept_marks H m ≡ swept_marks G m
  pub alike_sweeps : sweeps H m ≡ sweeps G m
  pub alike_steps : swept_steps H m ≡ swept_steps G m

abbrev pub AlikeSweeps : Type 0
AlikeSweeps = (G : Tracer) (w : ℕ → List ℕ) → SameWays G w → (m : List ℕ) → AlikeSwept (with_ways G w) G m
