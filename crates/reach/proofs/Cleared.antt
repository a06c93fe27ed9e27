-- Cleared marks: what they are, and how a loop clears them one by one. Assumes nothing.
use Prim.Native.Nat.{ℕ, ◌+◌, ◌<◌, ◌≤◌}
use native.Mathlib.Omega.{arith}
use mathlib.Core.Path.{◌≡◌, ◌∙◌}
use mathlib.Core.List.{List}
use lib.ListN.{length, get_or, set, drop, replicate, length-append, length-replicate, length-drop, get_or-replicate, get_or-append}
use borrow.Author.Fill.{fill_none, fill_more}
use Rattle.reach.specs.Mark.{cleared}

pub length_cleared : (n : ℕ) (m : List ℕ) → n ≤ length m → length (cleared n m) ≡ length m
unfolding cleared
length_cleared n m l = omega (arith, length-append (replicate n 0) (drop n m), length-replicate {A = ℕ} n 0, length-drop n m)

pub cleared_at : (n : ℕ) (m : List ℕ) (q : ℕ) → q < n → get_or (cleared n m) q 0 ≡ 0
unfolding cleared
cleared_at n m q h = get_or-append (replicate n 0) (drop n m) 0 q (omega (arith, length-replicate {A = ℕ} n 0)) ∙ get_or-replicate n q 0 0 h

pub cleared_none : (m : List ℕ) → m ≡ cleared 0 m
unfolding cleared
cleared_none m = fill_none m 0

pub cleared_more : (n : ℕ) (m : List ℕ) → n < length m → set (cleared n m) n 0 ≡ cleared (n + 1) m
unfolding cleared
cleared_more n m h = fill_more n 0 m h
