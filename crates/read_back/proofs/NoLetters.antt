-- A byte that is none of the letters of lines begins none.
-- Assumes nothing.
use mathlib.Core.Path.{◌≡◌}
use Prim.Native.Nat.{ℕ}
use Prim.Native.Char.{code}
use borrow.Author.Tests.{ne_eqb}
use mathlib.Core.Bool.{false}
use mathlib.Core.List.{List}
use Rattle.instruction.specs.declared.mode.Mode.{Mode}
use Rattle.read_back.proofs.Letters.{Other}
use Rattle.read_back.specs.Offsets.{by_letter_at}

pub no_line : (mode : Mode) (c : ℕ) (line : List ℕ) → Other c → by_letter_at mode c line ≡ false
no_line mode c line n = rw (
  ne_eqb c (code "L") n.0.0.0.0.1,
  ne_eqb c (code "O") n.0.0.0.1,
  ne_eqb c (code "A") n.0.0.1,
  ne_eqb c (code "I") n.0.1,
  ne_eqb c (code "D") n.1,
)
