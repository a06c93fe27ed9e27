-- The first byte of a form: its fixed bits, and what its free bits hold.
-- Assumes nothing.
use mathlib.Core.Path.{◌≡◌}
use mathlib.Core.List.{[]}
use Prim.Native.Nat.{ℕ, ◌+◌, ◌*◌, ◌/◌, ◌%◌, ◌<◌}
use lib.Dec.{eqb, eqb→eq}
use lib.ListN.{get_or}
use Rattle.instruction.specs.Forms.{forms, form_at, form_of, bits}
use Rattle.instruction.specs.Pattern.{value, pattern, pattern_bytes, onto, bits_given, next_bracket}
use Rattle.instruction.specs.declared.kind.Shape.{Shape}
use Rattle.instruction.specs.declared.kind.Shape.TheVariants.{Bare, Imm, D9, Ri, ImmD9, ImmRi, D9B3, A12, A16, R16, R8, D9B3R8, D9R8, RiR8, ImmR8, RiImmR8}
use Rattle.instruction.proofs.Every.{holds}

-- a form's fixed bits as a number
abbrev pub fixed_of : ℕ → ℕ
fixed_of k = value (get_or (bits (form_at k)) 0 []) []

-- what the free bits hold: none, bit 0, bits 0 and 1, or bit 4 with bits 0 to 2
unfoldable pub held : Shape → ℕ → ℕ
held Bare x = 0
held Imm x = 0
held D9 x = x % 2
held Ri x = x % 4
held ImmD9 x = x % 2
held ImmRi x = x % 4
held D9B3 x = x / 16 % 2 * 16 + x % 8
held A12 x = x / 16 % 2 * 16 + x % 8
held A16 x = 0
held R16 x = 0
held R8 x = 0
held D9B3R8 x = x / 16 % 2 * 16 + x % 8
held D9R8 x = x % 2
held RiR8 x = x % 4
held ImmR8 x = 0
held RiImmR8 x = x % 4

pub first_is : (x : ℕ) → x < 256 → fixed_of (form_of x) + held (form_at (form_of x)).shape x ≡ x
unfolding held forms form_at form_of pattern pattern_bytes onto bits_given next_bracket
first_is x h =
    eqb→eq (fixed_of (form_of x) + held (form_at (form_of x)).shape x) x
    (holds (λ n. eqb (fixed_of (form_of n) + held (form_at (form_of n)).shape n) n) 256 tt x h)
