-- What is written is laid over the beginning of a room.
-- Assumes nothing.
use mathlib.Core.Path.{◌≡◌, ap, ◌∙◌}
use mathlib.Core.List.{List, ◌++◌}
use Prim.Native.Nat.{ℕ, ◌≤◌}
use native.Mathlib.Nat.{zero-add}
use native.Mathlib.Omega.{arith}
use lib.ListN.{length, drop}
use lib.Seq.{sets, sets-eq}
use Rattle.instruction.specs.Answer.{laid}

pub laid_over : (xs room : List ℕ) → length xs ≤ length room → sets room 0 xs ≡ laid xs room
laid_over xs room h = sets-eq xs room 0 (omega arith) ∙ ap (λ (k : ℕ). xs ++ drop k room) (zero-add (length xs))
