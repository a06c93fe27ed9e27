-- What every inner function that writes says.
-- Assumes nothing.
use Rattle.std.specs.Prelude.{ℕ, zero, suc, ◌+◌, ◌/◌, ◌%◌, ◌<◌, ◌≤◌, ◌≡◌, List, [], ◌∷◌, length}
use Rattle.std.proofs.lemmas.List.Edits.{sets}

-- the text is put into old at a place, which leaves new and the next place; what would fall past the end is counted and not written
pub record Puts (text : List ℕ) (at : ℕ) (old new : List ℕ) (r : ℕ) : Type 0 where
  pub next : r ≡ at + length text
  pub wrote : new ≡ sets old at text

-- r is the length of the text, or it is at least that and the room is no shorter
pub record Needed (text : List ℕ) (room r : ℕ) : Type 0 where
  pub covers : length text ≤ r
  pub exact : room < r → length text ≡ r

-- at most k letters of a number, the lowest byte first
unfoldable pub letters : ℕ → ℕ → List ℕ
letters zero w = []
letters (suc k) zero = []
letters (suc k) (suc w) = suc w % 256 ∷ letters k (suc w / 256)
