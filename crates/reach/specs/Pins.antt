-- Pinned positions (request W8): mark 4 keeps the tracer off. Assumes nothing.
use Rattle.std.specs.Prelude.{ℕ, cond, List, [], ◌∷◌, set, ltb}
use Rattle.reach.specs.Mark.{cleared}

-- 4 pinned
abbrev pub pinned : ℕ
pinned = 4

-- the table with the positions qs pinned; one past the image is skipped
unfoldable pub pin : ℕ → List ℕ → List ℕ → List ℕ
pin n [] m = m
pin n (q ∷ qs) m = pin n qs (cond (ltb q n) (set m q pinned) m)

-- the table that a trace starts from: the first n marks cleared, and the positions qs pinned
abbrev pub table : ℕ → List ℕ → List ℕ → List ℕ
table n qs m = pin n qs (cleared n m)
