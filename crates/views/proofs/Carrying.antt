-- What the refusals that all views share carry.
-- Assumes nothing.
use mathlib.Core.List.{List, [], ◌∷◌}
use Prim.Native.Nat.{ℕ}
use lib.IntN.{ℤ, pos}
use lib.ListN.{length}
use Rattle.instruction.proofs.Carried.{Each}
use Rattle.views.specs.Positions.{positions}
use Rattle.views.specs.View.{damage_in, view_refusals}

module _ (P : ℕ → List ℤ → Type 0) (damage : (p : ℕ) → P 6 (pos p ∷ [])) (image m : List ℕ) where
  damage_each : (ps : List ℕ) → Each P (damage_in image m ps)
  damage_each [] = tt
  damage_each (p ∷ ps) = (damage p, damage_each ps)

  pub view_each : P 1 (pos (length image) ∷ []) → P 2 (pos (length m) ∷ []) → Each P (view_refusals image m)
  unfolding view_refusals
  view_each i k = (i, (k, damage_each (positions image)))
