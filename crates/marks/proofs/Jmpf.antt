-- Jmpf's first byte is 21, and no other byte is a first byte of Jmpf: one test at each byte, which antt computes.
-- Assumes nothing.
use mathlib.Core.Path.{◌≡◌, refl, ◌∙◌}
use mathlib.Core.Bool.{Bool, true, false}
use mathlib.Core.List.{List}
use Prim.Native.Nat.{ℕ, ◌<◌, ◌≤◌}
use lib.Dec.{T, eqb, leb}
use borrow.Author.Tests.{eq-eqb, ne_eqb, leb-true}
use Rattle.instruction.specs.Forms.{forms, form_of, form_named}
use Rattle.instruction.specs.Pattern.{pattern, pattern_bytes, onto, bits_given, next_bracket}
use Rattle.instruction.proofs.Every.{holds}
use Rattle.instruction.proofs.Ands.{first_part}
use Rattle.targets.specs.At.{flash_here}

unfoldable pub same : Bool → Bool → Bool
same true b = b
same false true = false
same false false = true

pub same_is : (a b : Bool) → T (same a b) → a ≡ b
unfolding same
same_is true true t = refl
same_is true false t = absurd t
same_is false true t = absurd t
same_is false false t = refl

pub jmpf_by_byte : (x : ℕ) → x < 256 → eqb (form_of x) (form_named "Jmpf") ≡ eqb x 0x21
unfolding same form_of form_named forms pattern pattern_bytes onto bits_given next_bracket
jmpf_by_byte x h = same_is (eqb (form_of x) (form_named "Jmpf")) (eqb x 0x21) (holds (λ k. same (eqb (form_of k) (form_named "Jmpf")) (eqb k 0x21)) 256 tt x h)

pub jmpf_is : (x : ℕ) → x < 256 → x ≡ 0x21 → eqb (form_of x) (form_named "Jmpf") ≡ true
jmpf_is x h e = jmpf_by_byte x h ∙ eq-eqb x 0x21 e

pub jmpf_not : (x : ℕ) → x < 256 → (x ≡ 0x21 → ⊥) → eqb (form_of x) (form_named "Jmpf") ≡ false
jmpf_not x h e = jmpf_by_byte x h ∙ ne_eqb x 0x21 e

-- a Jmpf after B8 0D has two bytes before it
pub two_before : (image : List ℕ) (p : ℕ) → flash_here image p ≡ true → 2 ≤ p
unfolding flash_here
two_before image p e = leb-true 2 p (first_part (leb 2 p) _ e)
