-- The first n bytes of a room cleared, where it has as many. Document 01, 'Marks and steps': bytes beyond the image's length stay.
-- Assumes nothing.
use Rattle.std.specs.Prelude.{ℕ, cond, List, ltb, length}
use Rattle.reach.specs.Mark.{cleared}

unfoldable pub wiped : ℕ → List ℕ → List ℕ
wiped n m = cond (ltb (length m) n) m (cleared n m)
