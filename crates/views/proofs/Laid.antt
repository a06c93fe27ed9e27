-- Positions written one after another into a room.
-- Assumes nothing.
use mathlib.Core.Path.{◌≡◌, ap, ◌∙◌}
use mathlib.Core.List.{List, ◌++◌}
use Prim.Native.Nat.{ℕ, ◌+◌, ◌≤◌}
use native.Mathlib.Omega.{arith}
use lib.ListN.{length, drop}
use lib.Seq.{sets, sets-eq}

-- from its start on they are laid over its beginning
pub laid : (vs room : List ℕ) → length vs ≤ length room → sets room 0 vs ≡ vs ++ drop (length vs) room
laid vs room h = let z : 0 + length vs ≡ length vs = omega arith in sets-eq vs room 0 (omega arith) ∙ ap (λ (k : ℕ). vs ++ drop k room) z
