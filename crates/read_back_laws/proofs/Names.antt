-- The mnemonic and the operands of an `I` line hold no tab and no byte 10.
-- Assumes nothing.
use mathlib.Core.Path.{◌≡◌, refl}
use mathlib.Core.Bool.{Bool, true, false, cond}
use mathlib.Core.List.{List, [], ◌∷◌}
use Prim.Native.Nat.{ℕ, ◌<◌}
use Prim.Native.Char.{code}
use lib.Dec.{ltb}
use Rattle.instruction.specs.Kinds.{kinds_of}
use Rattle.instruction.specs.declared.kind.Kind.{Kind}
use Rattle.instruction.specs.declared.kind.Kind.TheVariants.{Absent, Immediate, Direct, Register, BitNumber, Page, Far, Short, Long}
use Rattle.instruction.specs.Encode.{form_in}
use Rattle.instruction.specs.Forms.{forms}
use Rattle.instruction.specs.Mnemonic.{letters_of, mnemonic_of}
use Rattle.instruction.specs.declared.instr.Instr.{Instr}
use Rattle.instruction.proofs.Shapes.{at_each}
use Rattle.instruction.specs.declared.mode.Mode.{Mode}
use Rattle.listing.specs.Hex.{hex2, hex3, hex4}
use Rattle.listing.specs.Operand.{target, shown, shown_all, operands_by, operands}
use Rattle.read_back_laws.proofs.Digits.{digit_above}
use Rattle.read_back_laws.proofs.Fields.{above, all_above, four_above}

-- antt computes it for each of the 70 forms
pub name_above : (k : ℕ) → k < 70 → above (mnemonic_of k) ≡ true
unfolding forms letters_of mnemonic_of
name_above = at_each (λ w. above (letters_of w.name)) (λ w. true) refl

target_above : (t : ℕ) → above (target t) ≡ true
unfolding target
target_above t = by (ltb 65535 t)
  where
    by : (b : Bool) → above (cond b (code "?" ∷ []) (hex4 t)) ≡ true
    by true = refl
    by false = four_above t

shown_above : (t : ℕ) (k : Kind) (n : ℕ) → above (shown t k n) ≡ true
unfolding shown hex2 hex3
shown_above t Absent n = refl
shown_above t Immediate n = simp digit_above
shown_above t Direct n = simp digit_above
shown_above t Register n = simp digit_above
shown_above t BitNumber n = simp digit_above
shown_above t Page n = target_above t
shown_above t Far n = target_above t
shown_above t Short n = target_above t
shown_above t Long n = target_above t

all_above_lem : (t : ℕ) (ks : List Kind) (ns : List ℕ) → all_above (shown_all t ks ns) ≡ true
all_above_lem t [] ns = refl
all_above_lem t (k ∷ ks) [] = refl
all_above_lem t (k ∷ ks) (n ∷ ns) = rw (shown_above t k n) (all_above_lem t ks ns)

pub operands_above : (mode : Mode) (p : ℕ) (i : Instr) → all_above (operands mode p i) ≡ true
unfolding operands_by
operands_above mode p i = all_above_lem _ (kinds_of (form_in i).shape) _
