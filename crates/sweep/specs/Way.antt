-- Of inner functions: what a sweep knows on its way, so that it meets only positions between which something waits. Document 02, W6.
-- Assumes nothing.
use Rattle.std.specs.Prelude.{ℕ, ◌+◌, ◌<◌, ◌≤◌, true, cond, ◌≡◌}
use mathlib.Core.List.{List, Memᴰ as Among}
use Rattle.reach.specs.Tracer.{Tracer}
use Rattle.reach.specs.Sweep.{can_take, swept_at, sweep_once, sweep_taken}
use Rattle.sweep.specs.declared.way.Way.{Way}

abbrev pub AllBelow : ℕ → List ℕ → Type 0
AllBelow n ts = (q : ℕ) → Among q ts → q < n

-- where `at` is met next, q stands ahead and before the end, or behind and between the two bounds
abbrev pub Covers : Way → ℕ → ℕ → Type 0
Covers w at q = (at ≤ q → q < w.end) × (q < at → (w.from ≤ q) × (q < w.to))

-- no bound lies outside an image of n bytes
abbrev pub Bounded : ℕ → Way → Type 0
Bounded n w = (w.end ≤ n) × (w.from ≤ n) × (w.to ≤ n)

-- all that a sweep could take up stands between these bounds
abbrev pub Between : Tracer → List ℕ → ℕ → ℕ → Type 0
Between G m from to = (q : ℕ) → can_take G m q ≡ true → (from ≤ q) × (q < to)

-- these positions are covered besides
pub record Joined (at : ℕ) (ts : List ℕ) (w r : Way) : Type 0 where
  pub bounds : (n : ℕ) → at ≤ n → AllBelow n ts → Bounded n w → Bounded n r
  pub new : (q : ℕ) → Among q ts → Covers r at q
  pub old : (q : ℕ) → Covers w at q → Covers r at q

-- the position p met, with the marks m before and m' after
pub record MetOn (G : Tracer) (m : List ℕ) (p : ℕ) (w r : Way) (m' : List ℕ) : Type 0 where
  pub taken_is : r.taken ≡ w.taken + cond (can_take G m p) 1 0
  pub marks_are : m' ≡ swept_at G m p
  pub bounds : Bounded G.size w → Bounded G.size r
  pub covers : ((q : ℕ) → can_take G m q ≡ true → Covers w p q) → (q : ℕ) → can_take G m' q ≡ true → Covers r (p + 1) q

-- one sweep made: what it took, the marks, and between which positions the next one finds what it could take up
pub record SweptOver (G : Tracer) (m : List ℕ) (r : Way) (m' : List ℕ) : Type 0 where
  pub taken_is : r.taken ≡ sweep_taken G m
  pub marks_are : m' ≡ sweep_once G m
  pub bounds : Bounded G.size r
  pub between : Between G m' r.from r.to
