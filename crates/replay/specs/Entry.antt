-- Serves inner functions alone: the table of bits that tells which positions are entries.
-- Assumes nothing.
use Rattle.std.specs.Prelude.{ℕ, cond, List, [], ◌∷◌, ltb}
use Rattle.map.specs.Packed.{with_code}

-- the table with the bit of q set, if q is in memory
abbrev pub with_entry : ℕ → List ℕ → List ℕ
with_entry q ws = cond (ltb q 65536) (with_code ws q) ws

-- and of all of these
unfoldable pub with_entries : List ℕ → List ℕ → List ℕ
with_entries [] ws = ws
with_entries (q ∷ qs) ws = with_entries qs (with_entry q ws)
