-- How many pieces a text is cut into.
-- Assumes nothing.
use mathlib.Core.Bool.{Bool, true, false, cond}
use mathlib.Core.List.{List, [], ◌∷◌}
use Prim.Native.Nat.{ℕ, suc, ◌≤◌}
use native.Mathlib.Omega.{arith}
use lib.Dec.{eqb}
use lib.ListN.{length}
use Rattle.text.specs.Cut.{before, cut}

-- no more than bytes
pub pieces_few : (s : ℕ) (t : List ℕ) → length (cut s [] t) ≤ length t
unfolding cut
pieces_few s [] = omega arith
pieces_few s (b ∷ t) = by (eqb b s) (cut s [] t) (pieces_few s t)
  where
    by : (c : Bool) (ls : List (List ℕ)) → length ls ≤ length t → length (cond c ([] ∷ ls) (before b ls)) ≤ suc (length t)
    by true ls h = omega arith
    by false [] h = omega arith
    by false (l ∷ ls) h = omega arith
