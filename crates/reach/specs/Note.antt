-- Noting positions in a table (document 01, "Marks and steps"): "each target inside the image with mark 0 becomes 1". Assumes nothing.
use Rattle.std.specs.Prelude.{ℕ, ◌<◌, Bool, cond, ◌&&◌, ◌≡◌, List, [], ◌∷◌, ◌++◌, get_or, set, ltb, eqb}
use Rattle.reach.specs.Mark.{untouched, waiting}

-- t is inside an image of n bytes, and untouched
pub record Open (n : ℕ) (m : List ℕ) (t : ℕ) : Type 0 where
  pub inside : t < n
  pub clear : get_or m t 0 ≡ untouched

-- the test for that
unfoldable pub is_open : ℕ → List ℕ → ℕ → Bool
is_open n m t = ltb t n && eqb (get_or m t 0) untouched

-- the marks after the positions ts were noted, in their order: each that is inside and untouched becomes waiting
unfoldable pub note : ℕ → List ℕ → List ℕ → List ℕ
note n [] m = m
note n (t ∷ ts) m = note n ts (cond (is_open n m t) (set m t waiting) m)

-- those of ts that became waiting, in their order
unfoldable pub fresh : ℕ → List ℕ → List ℕ → List ℕ
fresh n [] m = []
fresh n (t ∷ ts) m = cond (is_open n m t) (t ∷ []) [] ++ fresh n ts (note n (t ∷ []) m)
