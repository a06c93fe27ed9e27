-- Totals along a log: each line adds one to a count, and at most one to interrupts or free moves.
-- Assumes nothing.
use Prim.Native.Nat.{ℕ, zero, suc, ◌+◌, ◌-◌, ◌*◌, ◌<◌, ◌≤◌}
use native.Mathlib.Omega.{arith}
use mathlib.Core.Path.{◌≡◌, refl, sym, ap, subst, ◌∙◌}
use mathlib.Core.Bool.{Bool, true, false, cond}
use mathlib.Core.List.{List, [], ◌∷◌}
use mathlib.Core.Logic.{◌⊎◌, inl, inr}
use Rattle.std.specs.Prelude.{Option, Some, None}
use lib.Dec.{eqb, leb}
use lib.ListN.{length, get_or, set}
use borrow.Author.Tests.{leb-true}
use Rattle.map_laws.specs.ClaimsMap.{sum}
use Rattle.replay.specs.Line.{digits_in, is_line, position_of}
use Rattle.replay.specs.Log.{highest, one_more, more_if}
use Rattle.replay.specs.Moves.{is_interrupt, is_free}
use Rattle.replay.specs.declared.moves.Move.{Move}
use Rattle.replay.specs.declared.moves.Move.TheVariants.{Target, Interrupt, Free}
use Rattle.text.specs.Four.{four_of}

pub sum_more : (c : List ℕ) (p : ℕ) → p < length c → sum (set c p (get_or c p 0 + 1)) ≡ sum c + 1
unfolding sum
sum_more [] p h = absurd (omega arith)
sum_more (x ∷ c) zero h = omega arith
sum_more (x ∷ c) (suc p) h = omega (arith, sum_more c p (omega arith))

more_le : (n : ℕ) → one_more n ≤ n + 1
unfolding one_more
more_le n = by (leb highest n) refl
  where
    by : (b : Bool) → leb highest n ≡ b → cond b highest (n + 1) ≤ n + 1
    by true e = let h = leb-true highest n e in omega arith
    by false e = omega arith

pub few_more : (i f : ℕ) (by : Option Move) → more_if i (is_interrupt by) + more_if f (is_free by) ≤ i + f + 1
few_more i f (Some Target) = omega arith
few_more i f (Some Interrupt) = omega (arith, more_le i)
few_more i f (Some Free) = omega (arith, more_le f)
few_more i f None = omega arith

pub none_more : (i f : ℕ) (by : Option Move) → by ≡ Some Target → (more_if i (is_interrupt by) ≡ i) × (more_if f (is_free by) ≡ f)
none_more i f by e = rw e (refl, refl)

-- a position in memory is told by a line
pub line_told : (l : List ℕ) → position_of l < 65536 → is_line l ≡ true
unfolding position_of
line_told l h = by (is_line l) refl h
  where
    by : (b : Bool) → is_line l ≡ b → cond b (four_of (digits_in l)) 65536 < 65536 → is_line l ≡ true
    by true e h = e
    by false e h = absurd (omega arith)
