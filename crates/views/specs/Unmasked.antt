-- Of an inner function: the data run of a walk that keeps where the code so far ends. It is told from the marks, without a mask.
-- Assumes nothing.
use Rattle.std.specs.Prelude.{ℕ, Bool, cond, not, ◌&&◌, List, [], ltb, length, take, drop}
use Rattle.views.specs.Positions.{up_from, traced_at}
use Rattle.views.specs.DataRun.{leading}

-- b is inside and not traced
abbrev pub is_untraced : List ℕ → List ℕ → ℕ → Bool
is_untraced image m b = ltb b (length image) && not (traced_at image m b)

unfoldable pub untraced_length : List ℕ → List ℕ → ℕ → ℕ
untraced_length image m p = leading (is_untraced image m) (up_from 16 p)

-- the run at p, where the code that begins up to p ends at e
unfoldable pub unmasked_run : List ℕ → List ℕ → ℕ → ℕ → List ℕ
unmasked_run image m p e = cond (ltb p e) [] (take (untraced_length image m p) (drop p image))
