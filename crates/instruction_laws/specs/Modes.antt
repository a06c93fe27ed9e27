-- Resolving in the two modes, beside each other. Document 01, 'Resolving operands'; document 02, W7.
-- Assumes nothing.
use Rattle.std.specs.Prelude.{ℕ, [], ◌∷◌, ◌≢◌, ◌≡◌, ℤ, pos, negsuc, ◌-ℤ◌}
use Rattle.instruction.specs.Answer.{accepted, refused, refuse}
use Rattle.instruction.specs.Range.{outside}
use Rattle.instruction.specs.Resolve.{resolve_answer}
use Rattle.instruction.specs.ResolveOperand.{no_address, operand_refusals, field_of}
use Rattle.instruction.specs.declared.instr.Instr.{Instr}
use Rattle.instruction.specs.declared.instr.Instr.TheVariants.{Br}
use Rattle.instruction.specs.declared.kind.Kind.{Kind}
use Rattle.instruction.specs.declared.kind.Kind.TheVariants.{Short}
use Rattle.instruction.specs.declared.mode.Mode.TheVariants.{Unwrapped, Wrapping}

-- Of an operand the modes judge and answer the same
pub record SameOperand (base n : ℕ) (k : Kind) (z : ℤ) : Type 0 where
  pub same_refusals : operand_refusals Wrapping base n k z ≡ operand_refusals Unwrapped base n k z
  pub same_field : field_of Wrapping base k z ≡ field_of Unwrapped base k z

-- So it is at every kind but that of a short branch. There the old mode is document 01's: 8 where the number is no address, then 9 with the
-- number less the base where that is not from -128 to 127, and else this is the field
pub record ResolvesAsBefore : Type 0 where
  pub others : (base n : ℕ) (k : Kind) (z : ℤ) → k ≢ Short → SameOperand base n k z
  pub short_refusals : (base n : ℕ) (z : ℤ) → operand_refusals Unwrapped base n Short z
      ≡ refuse (no_address z) 8 (z ∷ []) ∷ refuse (outside (negsuc 127) (pos 127) (z -ℤ pos base)) 9 ((z -ℤ pos base) ∷ []) ∷ []
  pub short_field : (base : ℕ) (z : ℤ) → field_of Unwrapped base Short z ≡ z -ℤ pos base

-- what resolve accepts in the old mode it answers alike in wrapping mode
abbrev pub ResolvedAlike : Type 0
ResolvedAlike = (i : Instr) (base : ℕ) (j : Instr) → resolve_answer Unwrapped i base ≡ accepted j → resolve_answer Wrapping i base ≡ accepted j

-- not the other way round: Br to 5 at base 65,534 is 9 in the old mode and offset 7 in wrapping mode; and what both refuse by 9 has each
-- mode's difference beside it
abbrev pub ModesResolve : Type 0
ModesResolve =
    (resolve_answer Unwrapped (Br (pos 5)) 65534 ≡ refused 9 (negsuc 65528 ∷ []))
    × (resolve_answer Wrapping (Br (pos 5)) 65534 ≡ accepted (Br (pos 7)))
    × (resolve_answer Unwrapped (Br (pos 0)) 40000 ≡ refused 9 (negsuc 39999 ∷ []))
    × (resolve_answer Wrapping (Br (pos 0)) 40000 ≡ refused 9 (pos 25536 ∷ []))
