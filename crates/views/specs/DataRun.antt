-- The data run. Document 01, 'Views': at p up to 16 bytes, ending before a nonzero mask byte; a part of the image. Missing mask bytes count
-- as 1. Empty if p is at or past the end.
-- Assumes nothing.
use Rattle.std.specs.Prelude.{ℕ, suc, Bool, cond, ◌&&◌, List, [], ◌∷◌, eqb, ltb, length, get_or, take, drop}
use Rattle.views.specs.Positions.{up_from}

-- how many of these positions, from the first on, pass the test one after another
unfoldable pub leading : (ℕ → Bool) → List ℕ → ℕ
leading f [] = 0
leading f (p ∷ ps) = cond (f p) (suc (leading f ps)) 0

-- b is inside and not masked
abbrev pub is_data : List ℕ → List ℕ → ℕ → Bool
is_data image mask b = ltb b (length image) && eqb (get_or mask b 1) 0

unfoldable pub run_length : List ℕ → List ℕ → ℕ → ℕ
run_length image mask p = leading (is_data image mask) (up_from 16 p)

unfoldable pub data_run : List ℕ → List ℕ → ℕ → List ℕ
data_run image mask p = take (run_length image mask p) (drop p image)
