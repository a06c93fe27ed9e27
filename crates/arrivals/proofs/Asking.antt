-- What is asked of an index: a cell, and what it says.
-- Assumes nothing.
use mathlib.Core.Path.{◌≡◌, refl}
use mathlib.Core.Bool.{Bool, true, false, cond}
use mathlib.Core.List.{List, [], ◌∷◌}
use Prim.Native.Nat.{ℕ, zero, suc, ◌<◌, ◌≤◌}
use native.Mathlib.Omega.{arith}
use lib.Dec.{ltb}
use lib.ListN.{length, get_or}
use borrow.Author.Tests.{ltb-false}
use Rattle.arrivals.specs.Index.{cell_of, cell_says}

-- what stands inside does not ask for what stands past the end
pub any_default : (l : List ℕ) (i c d : ℕ) → i < length l → get_or l i c ≡ get_or l i d
any_default [] i c d h = absurd (omega arith)
any_default (x ∷ l) zero c d h = refl
any_default (x ∷ l) (suc i) c d h = any_default l i c d (omega arith)

-- a position in a cell is read back
pub cell_back : (q : ℕ) → (q ≡ 65535 → ⊥) → q ≤ 65536 → cell_says (cell_of q) ≡ q
cell_back q d h = by (ltb q 65535) refl
  where
    by : (b : Bool) → ltb q 65535 ≡ b → cell_says (cond b q 65535) ≡ q
    by true e = rw e
    by false e = let g = ltb-false q 65535 e in let z : 65536 ≡ q = omega arith in z
