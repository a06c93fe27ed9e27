-- Claims: the tests that definitions compute with say what the relations say. Proved in proofs/Mark.antt, proofs/Open.antt and
-- proofs/IsAmong.antt. Assumes nothing.
use Rattle.std.specs.Prelude.{ℕ, true, ◌≡◌, ◌↔◌}
use mathlib.Core.List.{List, Memᴰ as Among}
use Rattle.reach.specs.HowMany.{is_among}
use Rattle.reach.specs.Mark.{IsTraced, traced_mark}
use Rattle.reach.specs.Note.{Open, is_open}

-- the test for marks 2 and 3
abbrev pub TracedTest : Type 0
TracedTest = (v : ℕ) → (traced_mark v ≡ true) ↔ IsTraced v

-- the test for a position inside and untouched
abbrev pub OpenTest : Type 0
OpenTest = (n : ℕ) (m : List ℕ) (t : ℕ) → (is_open n m t ≡ true) ↔ Open n m t

-- the test for a position that stands in a list
abbrev pub AmongTest : Type 0
AmongTest = (q : ℕ) (l : List ℕ) → (is_among q l ≡ true) ↔ Among q l
