-- Numbers in decimal, with no digit more than needed: 0 is one digit.
-- Assumes nothing.
use Rattle.std.specs.Prelude.{ℕ, zero, suc, ◌+◌, ◌/◌, ◌%◌, cond, List, [], ◌∷◌, ◌++◌, ltb}

-- the lowest k digits of a number, the highest first
unfoldable pub lowest : ℕ → ℕ → List ℕ
lowest zero n = []
lowest (suc k) n = lowest k (n / 10) ++ (48 + n % 10) ∷ []

-- how many digits a number has, with tens taken off at most k times
unfoldable pub width : ℕ → ℕ → ℕ
width zero n = 1
width (suc k) n = cond (ltb n 10) 1 (suc (width k (n / 10)))

abbrev pub decimal : ℕ → List ℕ
decimal n = lowest (width n n) n
