-- Taking positions up one after the other, in any order (document 01, "Marks and steps"). Assumes nothing.
use Rattle.std.specs.Prelude.{ℕ, ◌<◌, ◌≤◌, true, ◌≡◌, length, get_or}
use mathlib.Core.List.{List, [], ◌∷◌, Memᴰ as Among}
use Rattle.reach.specs.Mark.{waiting, IsLive}
use Rattle.reach.specs.Note.{note}
use Rattle.reach.specs.Tracer.{Tracer, took}

-- p can be taken up: it is inside, it waits, and its instruction fits
pub record Ready (G : Tracer) (m : List ℕ) (p : ℕ) : Type 0 where
  pub inside : p < G.size
  pub waits : get_or m p 0 ≡ waiting
  pub whole : G.fits p ≡ true

-- the positions ps, taken up one after the other, lead from the marks m to the marks m'
pub data Takes (G : Tracer) : List ℕ → List ℕ → List ℕ → Type 0 where
  stay : {m : List ℕ} → Takes G m [] m
  up : {m m' ps : List ℕ} {p : ℕ} → Ready G m p → Takes G (took G m p) ps m' → Takes G m (p ∷ ps) m'

-- none can be taken up
abbrev pub Ended : Tracer → List ℕ → Type 0
Ended G m = (p : ℕ) → Ready G m p → ⊥

-- a table to start from: at least as long as the image, and nothing inside waits or is traced
pub record Base (G : Tracer) (base : List ℕ) : Type 0 where
  pub long : G.size ≤ length base
  pub none_live : (q : ℕ) → q < G.size → IsLive (get_or base q 0) → ⊥

-- m is where some order ends: started from these entries over this base, and positions taken up until none could be
pub record ToEnd (G : Tracer) (base entries m : List ℕ) : Type 0 where
  pub order : List ℕ
  pub takes : Takes G (note G.size entries base) order m
  pub ended : Ended G m

-- no position stands twice in the list
abbrev pub Once : List ℕ → Type 0
Once [] = Unit {0}
Once (p ∷ ps) = (Among p ps → ⊥) × Once ps
