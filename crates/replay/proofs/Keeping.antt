-- The bytes that are left of a text, held.
-- Assumes nothing.
use Prim.Native.Nat.{ℕ}
use mathlib.Core.Path.{◌≡◌, refl}
use mathlib.Core.Bool.{true, false}
use mathlib.Core.List.{List}
use lib.Dec.{eqb}
use lib.ListN.{length}
use Rattle.views.specs.Positions.{some}
use Rattle.replay.specs.Log.{number_of, refusing, keeping}
use Rattle.replay.specs.declared.log.Log.{Log}

pub keep_refused : (l : Log) (rest : List ℕ) → some (eqb 10) rest ≡ true → refusing l 18 ≡ keeping l rest
unfolding keeping
keep_refused l rest e = rw e refl

pub keep_held : (l : Log) (rest : List ℕ) (n : ℕ) → some (eqb 10) rest ≡ false → n ≡ number_of rest
    → ◌≡◌ {A = Log} (record { lines = l.lines; interrupts = l.interrupts; free = l.free; last = l.last; refusal = 0; held = length rest; part = n })
    (keeping l rest)
unfolding keeping
keep_held l rest n e f = rw (e, f) refl
