-- Without pins all is document 01's.
-- Assumes nothing.
use Prim.Native.Nat.{ℕ}
use native.Mathlib.Omega.{arith}
use mathlib.Core.Bool.{Bool, true, false, ◌||◌}
use mathlib.Core.Logic.{◌≢◌}
use mathlib.Core.Path.{◌≡◌, refl}
use lib.Dec.{eqb, ltb}
use borrow.Author.Tests.{lt-ltb, le-ltb, ltb-true, ltb-false, ne_eqb}
use Rattle.reach.specs.Pins.{pinned, pin}
use Rattle.marks.specs.Refusals.{damaged}
use Rattle.trace.specs.Start.{start_answer, start_marks}
use Rattle.trace.specs.Run.{outcome_of}
use Rattle.trace_laws.specs.ClaimsPins.{NoPins, NoFour}

pub no_pins : NoPins
unfolding pin start_answer start_marks outcome_of
no_pins mode image marks entries limit = (refl, refl, refl)

over : (v : ℕ) → v ≢ pinned → damaged v ≡ ltb 3 v
over v ne = by (ltb 3 v) refl
  where
    by : (b : Bool) → ltb 3 v ≡ b → ltb 4 v ≡ b
    by true e = lt-ltb 4 v (let h = ltb-true 3 v e in omega arith)
    by false e = le-ltb 4 v (let h = ltb-false 3 v e in omega arith)

last : (b : Bool) → (b || false) ≡ b
last true = refl
last false = refl

pub no_four : NoFour
no_four v ne = (rw (ne_eqb v pinned ne, last (eqb v 3)), over v ne)
