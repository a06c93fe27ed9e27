-- Positions of an image, upward, and which of them pass a test. Document 01, 'Views' and 'The listing': upward by position.
-- Assumes nothing.
use Rattle.std.specs.Prelude.{ℕ, zero, suc, Bool, true, false, cond, ◌&&◌, ◌||◌, List, [], ◌∷◌, ltb, length, get_or}
use Rattle.reach.specs.Mark.{traced_mark}

-- 1 where a test passes, else 0
abbrev pub bit : Bool → ℕ
bit true = 1
bit false = 0

-- k positions upward from p
unfoldable pub up_from : ℕ → ℕ → List ℕ
up_from zero p = []
up_from (suc k) p = p ∷ up_from k (suc p)

-- all positions of the image
abbrev pub positions : List ℕ → List ℕ
positions image = up_from (length image) 0

-- one of these passes the test
unfoldable pub some : (ℕ → Bool) → List ℕ → Bool
some f [] = false
some f (p ∷ ps) = f p || some f ps

-- those that pass the test
unfoldable pub kept : (ℕ → Bool) → List ℕ → List ℕ
kept f [] = []
kept f (p ∷ ps) = cond (f p) (p ∷ kept f ps) (kept f ps)

-- a position inside the image whose mark is 2 or 3
abbrev pub traced_at : List ℕ → List ℕ → ℕ → Bool
traced_at image m p = ltb p (length image) && traced_mark (get_or m p 0)
