-- Of inner functions: the search for the next arrival.
-- Assumes nothing.
use Rattle.std.specs.Prelude.{ℕ, Bool, cond, ◌&&◌, List, eqb, ltb, get_or, Option, Some, None}
use Rattle.instruction.specs.Flow.{flow_of}
use Rattle.targets.specs.At.{form_here}
use Rattle.targets.specs.Ways.{is_naming}
use Rattle.reach.specs.Mark.{traced}

-- q had targets, and its first byte says that it names one
unfoldable pub may_name : List ℕ → List ℕ → ℕ → Bool
may_name image m q = eqb (get_or m q 0) traced && is_naming (flow_of (form_here image q))

-- a position that is searched for below n: none where it is outside
abbrev pub if_below : ℕ → ℕ → Option ℕ
if_below n q = cond (ltb q n) (Some q) None
