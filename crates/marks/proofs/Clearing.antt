-- A room with as many bytes is cleared.
-- Assumes nothing.
use mathlib.Core.Path.{◌≡◌}
use mathlib.Core.List.{List}
use Prim.Native.Nat.{ℕ, ◌≤◌}
use lib.ListN.{length}
use borrow.Author.Tests.{le-ltb}
use Rattle.reach.specs.Mark.{cleared}
use Rattle.marks.specs.Clear.{wiped}

pub wiped_is : (n : ℕ) (m : List ℕ) → n ≤ length m → wiped n m ≡ cleared n m
unfolding wiped
wiped_is n m h = rw (le-ltb (length m) n h)
