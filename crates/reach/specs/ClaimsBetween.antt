-- Claims: whatever the order, what is traced at the end lies between two reachable sets (requests W13, W7; demand 3 is the case of one set).
-- Proved in proofs/Between.antt. Assumes nothing.
use Rattle.std.specs.Prelude.{ℕ, ◌<◌, ◌≤◌, Bool, true, false, ◌≡◌, ◌↔◌, length, get_or}
use mathlib.Core.List.{List, Memᴰ as Among}
use Rattle.reach.specs.Mark.{waiting, IsTraced}
use Rattle.reach.specs.Tracer.{Tracer, targets}
use Rattle.reach.specs.Takes.{Base, ToEnd}
use Rattle.reach.specs.Reach.{Reach}

-- under any marks the tracer follows from p all of lo p, and nothing but hi p
pub record Within (G : Tracer) (lo hi : ℕ → List ℕ) : Type 0 where
  pub at_least : (m : List ℕ) (p q : ℕ) → Among q (lo p) → Among q (targets G m p)
  pub at_most : (m : List ℕ) (p q : ℕ) → Among q (targets G m p) → Among q (hi p)

-- Inside the image the marks m lie between: traced are all reached by lo whose instruction fits, and none but those reached by hi whose
-- instruction fits; of waiting the same is said where it does not fit; a position not reached by hi has its mark of the base
pub record Between (G : Tracer) (lo hi : ℕ → List ℕ) (base entries m : List ℕ) : Type 0 where
  pub traced_all : (q : ℕ) → Reach G lo base entries q → G.fits q ≡ true → IsTraced (get_or m q 0)
  pub traced_only : (q : ℕ) → q < G.size → IsTraced (get_or m q 0) → Reach G hi base entries q × (G.fits q ≡ true)
  pub waiting_all : (q : ℕ) → Reach G lo base entries q → G.fits q ≡ false → get_or m q 0 ≡ waiting
  pub waiting_only : (q : ℕ) → q < G.size → get_or m q 0 ≡ waiting → Reach G hi base entries q × (G.fits q ≡ false)
  pub others : (q : ℕ) → q < G.size → (Reach G hi base entries q → ⊥) → get_or m q 0 ≡ get_or base q 0

-- past the n positions of an image the marks m are the base's
pub record Beyond (n : ℕ) (base m : List ℕ) : Type 0 where
  pub stay : (q : ℕ) → n ≤ q → get_or m q 0 ≡ get_or base q 0
  pub long : length m ≡ length base

-- every order ends between
abbrev pub EndsBetween : Type 0
EndsBetween =
    (G : Tracer) (lo hi : ℕ → List ℕ) → Within G lo hi → (base entries m : List ℕ) → Base G base → ToEnd G base entries m
    → Between G lo hi base entries m × Beyond G.size base m

-- the two sets agree on the positions whose instruction fits (true), or on those where it does not (false)
abbrev pub Agree : Tracer → (ℕ → List ℕ) → (ℕ → List ℕ) → List ℕ → List ℕ → Bool → Type 0
Agree G lo hi base entries fit = (q : ℕ) → G.fits q ≡ fit → Reach G hi base entries q → Reach G lo base entries q

-- where the two sets agree on the positions that fit, all orders give the same traced positions
abbrev pub SameTraced : Type 0
SameTraced =
    (G : Tracer) (lo hi : ℕ → List ℕ) → Within G lo hi → (base entries m m' : List ℕ) → Base G base
    → Agree G lo hi base entries true → ToEnd G base entries m → ToEnd G base entries m'
    → (q : ℕ) → q < G.size → IsTraced (get_or m q 0) ↔ IsTraced (get_or m' q 0)

-- where they agree on those that do not fit, all leave the same positions waiting
abbrev pub SameWaiting : Type 0
SameWaiting =
    (G : Tracer) (lo hi : ℕ → List ℕ) → Within G lo hi → (base entries m m' : List ℕ) → Base G base
    → Agree G lo hi base entries false → ToEnd G base entries m → ToEnd G base entries m'
    → (q : ℕ) → q < G.size → (get_or m q 0 ≡ waiting) ↔ (get_or m' q 0 ≡ waiting)
