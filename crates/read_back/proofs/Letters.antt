-- The letters of lines: a byte that is none of them.
-- Assumes nothing.
use mathlib.Core.Path.{◌≡◌}
use Prim.Native.Nat.{ℕ}
use Prim.Native.Char.{code}
use borrow.Author.Tests.{ne_eqb}
use Rattle.read_back.specs.Order.{rank_of}

-- after the arms of a match on the five
abbrev pub Other : ℕ → Type 0
Other c = ((((Unit {0} × (c ≡ code "L" → ⊥)) × (c ≡ code "O" → ⊥)) × (c ≡ code "A" → ⊥)) × (c ≡ code "I" → ⊥)) × (c ≡ code "D" → ⊥)

pub no_rank : (c : ℕ) → Other c → 0 ≡ rank_of c
no_rank c n = rw (
  ne_eqb c (code "L") n.0.0.0.0.1,
  ne_eqb c (code "O") n.0.0.0.1,
  ne_eqb c (code "A") n.0.0.1,
  ne_eqb c (code "I") n.0.1,
  ne_eqb c (code "D") n.1,
)
