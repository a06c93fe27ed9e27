-- What four digits are: four bytes, each a digit.
-- Assumes nothing.
use mathlib.Core.Path.{◌≡◌}
use mathlib.Core.Bool.{true}
use mathlib.Core.List.{List}
use Prim.Native.Nat.{ℕ}
use lib.Dec.{eqb}
use lib.ListN.{length}
use borrow.Author.Tests.{eqb-true}
use Rattle.text.specs.Four.{is_four}
use Rattle.text.specs.Hex.{all_hex}
use Rattle.instruction.proofs.Ands.{first_part, second_part}

pub four_parts : (f : List ℕ) → is_four f ≡ true → (length f ≡ 4) × (all_hex f ≡ true)
unfolding is_four
four_parts f e = (eqb-true (length f) 4 (first_part (eqb (length f) 4) (all_hex f) e), second_part (eqb (length f) 4) (all_hex f) e)
