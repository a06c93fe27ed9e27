-- Counting positions (request W12). Assumes nothing.
use Rattle.std.specs.Prelude.{ℕ, zero, suc, ◌+◌, Bool, false, cond, ◌||◌, List, [], ◌∷◌, eqb}

-- how many of the k positions from p on pass a test
unfoldable pub how_many : (ℕ → Bool) → ℕ → ℕ → ℕ
how_many f zero p = 0
how_many f (suc k) p = cond (f p) 1 0 + how_many f k (suc p)

-- the test for a position that stands in a list
unfoldable pub is_among : ℕ → List ℕ → Bool
is_among q [] = false
is_among q (p ∷ ps) = eqb q p || is_among q ps
