-- Claims: sweeping is one of the orders, it ends, and it ends as a run does (request W6).
-- Proved in proofs/Swept.antt, Sweep.antt, SweepEnough.antt, SweepEach.antt, SweepTakes.antt and SweepRun.antt. Assumes nothing.
use Rattle.std.specs.Prelude.{ℕ, suc, ◌+◌, ◌<◌, ◌≤◌, ◌≡◌, ◌↔◌, length}
use mathlib.Core.List.{List, [], ◌∷◌, Memᴰ as Among}
use Rattle.reach.specs.Note.{note}
use Rattle.reach.specs.Tracer.{Tracer}
use Rattle.reach.specs.Takes.{Ready, Takes, Ended, Base, ToEnd}
use Rattle.reach.specs.Run.{finished, run_of}
use Rattle.reach.specs.ClaimsOrder.{Plain, Final}
use Rattle.reach.specs.ClaimsCut.{SomeWaits, SomeCut}
use Rattle.reach.specs.Sweep.{sweep_once, sweep_taken, traced_in, sweep_marks, sweep_count, swept_marks, sweeps}

-- the first lies from p on, each further one past the one before
abbrev pub Upward : ℕ → List ℕ → Type 0
Upward p [] = Unit {0}
Upward p (q ∷ qs) = (p ≤ q) × Upward (suc q) qs

-- A sweep takes waiting positions up, one after the other, upward; every position that could be taken up before it is among them
pub record OneSweep (G : Tracer) (m m' : List ℕ) : Type 0 where
  pub order : List ℕ
  pub takes : Takes G m order m'
  pub upward : Upward 0 order
  pub all : (q : ℕ) → Ready G m q → Among q order

-- so does every sweep
abbrev pub SweepTakes : Type 0
SweepTakes = (G : Tracer) (m : List ℕ) → G.size ≤ length m → OneSweep G m (sweep_once G m)

-- and takes as many as there are marks 2 and 3 more afterwards
abbrev pub SweepCounts : Type 0
SweepCounts = (G : Tracer) (m : List ℕ) → G.size ≤ length m → traced_in G (sweep_once G m) ≡ traced_in G m + sweep_taken G m

-- Sweeps lead from m to m' by taking up waiting positions; there are as many marks 2 and 3 more as positions were taken up
pub record Sweeps (G : Tracer) (m m' : List ℕ) : Type 0 where
  pub order : List ℕ
  pub takes : Takes G m order m'
  pub counted : traced_in G m' ≡ traced_in G m + length order

-- so do all sweeps
abbrev pub SweepsTake : Type 0
SweepsTake = (G : Tracer) (fuel : ℕ) (m : List ℕ) → G.size ≤ length m → Sweeps G m (sweep_marks G fuel m)

-- So many sweeps lead from m to m': each but the last takes at least one position, and the last none
pub data EachTakes (G : Tracer) : List ℕ → List ℕ → ℕ → Type 0 where
  last : {m : List ℕ} → sweep_taken G m ≡ 0 → EachTakes G m m 1
  another : {m m' : List ℕ} {k : ℕ} → 0 < sweep_taken G m → EachTakes G (sweep_once G m) m' k → EachTakes G m m' (suc k)

-- that is how many the engine counts
abbrev pub SweepsEach : Type 0
SweepsEach = (G : Tracer) (m : List ℕ) → G.size ≤ length m → EachTakes G m (swept_marks G m) (sweeps G m)

-- one sweep more than there are positions is enough: no waiting position is left whose instruction fits
abbrev pub SweepsEnd : Type 0
SweepsEnd = (G : Tracer) (fuel : ℕ) (m : List ℕ) → G.size ≤ length m → G.size < fuel → Ended G (sweep_marks G fuel m)

-- so more would change nothing: not the marks, and not how many sweeps there are
abbrev pub SweepsEnough : Type 0
SweepsEnough =
    (G : Tracer) (fuel fuel' : ℕ) (m : List ℕ) → G.size ≤ length m → G.size < fuel → G.size < fuel'
    → (sweep_marks G fuel m ≡ sweep_marks G fuel' m) × (sweep_count G fuel m ≡ sweep_count G fuel' m)

-- the sweeps from these entries, noted over the base
abbrev pub sweeps_of : ℕ → Tracer → List ℕ → List ℕ → List ℕ
sweeps_of fuel G entries base = sweep_marks G fuel (note G.size entries base)

-- so they are an order that ends
abbrev pub SweepsToEnd : Type 0
SweepsToEnd =
    (fuel : ℕ) (G : Tracer) (entries base : List ℕ) → Base G base → G.size < fuel → ToEnd G base entries (sweeps_of fuel G entries base)

-- with no exception the marks are demand 3's
abbrev pub SweepsFinal : Type 0
SweepsFinal =
    (fuel : ℕ) (G : Tracer) (entries base : List ℕ) → Plain G → Base G base → G.size < fuel
    → Final G base entries (sweeps_of fuel G entries base)

-- so they are those of every other order that ends
abbrev pub SweepsSame : Type 0
SweepsSame =
    (fuel : ℕ) (G : Tracer) (entries base m : List ℕ) → Plain G → Base G base → G.size < fuel → ToEnd G base entries m
    → sweeps_of fuel G entries base ≡ m

-- "its final marks equal those of a finished run"
abbrev pub SweepsRun : Type 0
SweepsRun =
    (fuel limit : ℕ) (G : Tracer) (entries base : List ℕ) → Plain G → Base G base → G.size < fuel
    → (run_of limit G entries base).end ≡ finished → sweeps_of fuel G entries base ≡ (run_of limit G entries base).marks

-- "it leaves a position waiting exactly when a run with a limit of at least the image length ends in refusal 5"
abbrev pub SweepsWait : Type 0
SweepsWait =
    (fuel limit : ℕ) (G : Tracer) (entries base : List ℕ) → Plain G → Base G base → G.size < fuel → G.size ≤ limit
    → SomeWaits G (sweeps_of fuel G entries base) ↔ SomeCut limit G entries base

-- and where it leaves none, such a run finishes, with the same marks
abbrev pub SweepsNoneWait : Type 0
SweepsNoneWait =
    (fuel limit : ℕ) (G : Tracer) (entries base : List ℕ) → Plain G → Base G base → G.size < fuel → G.size ≤ limit
    → (SomeWaits G (sweeps_of fuel G entries base) → ⊥)
    → ((run_of limit G entries base).end ≡ finished) × (sweeps_of fuel G entries base ≡ (run_of limit G entries base).marks)
