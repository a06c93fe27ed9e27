-- What can be undone tells apart; and the values beside an answer's number, read back.
-- Assumes nothing.
use mathlib.Core.Path.{◌≡◌, ap, sym, ◌∙◌}
use mathlib.Core.List.{List}
use Prim.Native.Nat.{ℕ}
use lib.IntN.{ℤ, pos, nat_abs}
use lib.ListN.{get_or}
use Rattle.instruction.specs.Answer.{Apart}
use Rattle.instruction.specs.declared.answer.CutOff.{CutOff}
use Rattle.instruction.specs.declared.answer.Misfit.{Misfit}
use Rattle.instruction.specs.declared.answer.Tops.{Tops}

pub undone : {R A : Type 0} (f : R → A) (g : A → R) → ((r : R) → g (f r) ≡ r) → Apart f
undone f g back r s e = sym (back r) ∙ ap g e ∙ back s

abbrev pub value_at : List ℤ → ℕ → ℤ
value_at vs n = get_or vs n (pos 0)

-- a value that is not below 0
abbrev pub number_at : List ℤ → ℕ → ℕ
number_at vs n = nat_abs (value_at vs n)

abbrev pub cut : List ℤ → CutOff
cut vs = record { position = number_at vs 0; first = number_at vs 1; missing = number_at vs 2 }

abbrev pub misfit : List ℤ → Misfit
misfit vs = record { operand = number_at vs 0; value = value_at vs 1 }

abbrev pub tops : List ℤ → Tops
tops vs = record { base = number_at vs 0; address = number_at vs 1 }
