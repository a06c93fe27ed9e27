-- Serves an inner function alone: the lines of a refused log taken out of the counts again, the last of them first.
-- Assumes nothing.
use Rattle.std.specs.Prelude.{ℕ, zero, suc, ◌-◌, ◌<◌, List, length, get_or, set}
use Rattle.replay.specs.Line.{position_at}

-- one less at p
abbrev pub less : List ℕ → ℕ → List ℕ
less c p = set c p (get_or c p 0 - 1)

-- the first k lines taken back
unfoldable pub taken_back : List ℕ → ℕ → List ℕ → List ℕ
taken_back text zero c = c
taken_back text (suc k) c = taken_back text k (less c (position_at text k))

-- each of them has a count to be taken from
abbrev pub Counted : List ℕ → ℕ → List ℕ → Type 0
Counted text zero c = Unit {0}
Counted text (suc k) c = (position_at text k < length c) × (0 < get_or c (position_at text k) 0) × Counted text k (less c (position_at text k))
