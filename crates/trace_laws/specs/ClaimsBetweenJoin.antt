-- Entry lists joined, for images that do hold B8 0D 21: what of document 02, W9 still holds there. Document 02, W13.
-- Proved in proofs/ClaimsBetweenJoinImages.antt. Assumes nothing.
use Rattle.std.specs.Prelude.{ℕ, ◌<◌, true, false, List, ◌++◌, ◌⊎◌, ◌↔◌, ◌≡◌, length, get_or}
use Rattle.instruction.specs.declared.mode.Mode.{Mode}
use Rattle.targets.specs.At.{fits_here}
use Rattle.reach.specs.ClaimsJoin.{IsWaiting, Joined, SamePositions}
use Rattle.reach.specs.Mark.{IsTraced}
use Rattle.trace_laws.specs.ClaimsJoin.{TracedToEnd}
use Rattle.trace_laws.specs.ClaimsBetween.{SetsAgree}
use Rattle.trace_laws.specs.Reachable.{Reachable, SurelyReachable}

-- a set of positions that goes by the entries: for two lists joined it is the union, and lists of the same positions have the same
pub record GoesByEntries (Set : List ℕ → ℕ → Type 0) : Type 0 where
  pub joined : (e₁ e₂ : List ℕ) (q : ℕ) → Set (e₁ ++ e₂) q ↔ (Set e₁ q ⊎ Set e₂ q)
  pub same : (e e' : List ℕ) → SamePositions e e' → (q : ℕ) → Set e q ↔ Set e' q

-- both sets do
abbrev pub SetsByEntries : Type 0
SetsByEntries =
    (mode : Mode) (image pins : List ℕ)
    → GoesByEntries (λ (e : List ℕ). SurelyReachable mode image e pins) × GoesByEntries (λ (e : List ℕ). Reachable mode image e pins)

-- So what is traced for two lists joined lies between the unions: all of the smaller sets that fits, and nothing but what the larger sets hold
pub record UnionBetween (mode : Mode) (image e₁ e₂ pins m : List ℕ) : Type 0 where
  pub traced_all : (q : ℕ) → SurelyReachable mode image e₁ pins q ⊎ SurelyReachable mode image e₂ pins q → fits_here image q ≡ true
      → IsTraced (get_or m q 0)
  pub traced_only : (q : ℕ) → q < length image → IsTraced (get_or m q 0)
      → (Reachable mode image e₁ pins q ⊎ Reachable mode image e₂ pins q) × (fits_here image q ≡ true)

-- so it is however the joined list was traced to its end
abbrev pub JoinedBetween : Type 0
JoinedBetween =
    (mode : Mode) (image e₁ e₂ pins m : List ℕ) → TracedToEnd mode image (e₁ ++ e₂) pins m → UnionBetween mode image e₁ e₂ pins m

-- where the two sets agree for each of the lists, on the positions that fit, W9 holds of the traced positions as it stands
abbrev pub AgreedJoined : Type 0
AgreedJoined =
    (mode : Mode) (image e₁ e₂ pins m₁ m₂ m : List ℕ) → SetsAgree mode image e₁ pins true → SetsAgree mode image e₂ pins true
    → TracedToEnd mode image e₁ pins m₁ → TracedToEnd mode image e₂ pins m₂ → TracedToEnd mode image (e₁ ++ e₂) pins m
    → (q : ℕ) → q < length image → Joined IsTraced m₁ m₂ m q

-- and of the waiting ones where they agree on the positions cut off
abbrev pub AgreedJoinedWaiting : Type 0
AgreedJoinedWaiting =
    (mode : Mode) (image e₁ e₂ pins m₁ m₂ m : List ℕ) → SetsAgree mode image e₁ pins false → SetsAgree mode image e₂ pins false
    → TracedToEnd mode image e₁ pins m₁ → TracedToEnd mode image e₂ pins m₂ → TracedToEnd mode image (e₁ ++ e₂) pins m
    → (q : ℕ) → q < length image → Joined IsWaiting m₁ m₂ m q

-- there lists of the same positions, in any order and with repeats, give the same traced positions
abbrev pub AgreedSameEntries : Type 0
AgreedSameEntries =
    (mode : Mode) (image e e' pins m m' : List ℕ) → SamePositions e e' → SetsAgree mode image e pins true
    → TracedToEnd mode image e pins m → TracedToEnd mode image e' pins m'
    → (q : ℕ) → q < length image → IsTraced (get_or m q 0) ↔ IsTraced (get_or m' q 0)
