-- Targets in the two modes, beside each other. Document 01, 'Targets'; document 02, W7.
-- Assumes nothing.
use Rattle.std.specs.Prelude.{ℕ, false, List, [], ◌∷◌, ◌≢◌, ◌≡◌, ℤ, pos, negsuc, ◌+ℤ◌}
use Rattle.instruction.specs.Answer.{accepted, refused}
use Rattle.instruction.specs.Decode.{decode_answer}
use Rattle.instruction.specs.Flow.{flow_of}
use Rattle.instruction.specs.Parts.{parts_of}
use Rattle.instruction.specs.ResolveOperand.{no_address}
use Rattle.instruction.specs.declared.instr.Instr.{Instr}
use Rattle.instruction.specs.declared.instr.Instr.TheVariants.{Br, Nop}
use Rattle.instruction.specs.declared.kind.Kind.{Kind}
use Rattle.instruction.specs.declared.kind.Kind.TheVariants.{Short}
use Rattle.instruction.specs.declared.mode.Mode.TheVariants.{Unwrapped, Wrapping}
use Rattle.targets.specs.Targets.{next_of, address_of, address_in, by_flow, targets_in, targets_answer}

-- The old mode is document 01's: a short target is next plus the offset, and next as a target is next itself. What every other kind of
-- operand names does not go by the mode
pub record TargetsAsBefore : Type 0 where
  pub short : (next : ℕ) (z : ℤ) → address_of Unwrapped next Short z ≡ pos next +ℤ z
  pub others : (next : ℕ) (k : Kind) (z : ℤ) → k ≢ Short → address_of Wrapping next k z ≡ address_of Unwrapped next k z
  pub goes : (next : ℕ) (i : Instr) → targets_in Unwrapped next i ≡ by_flow (flow_of (parts_of i).form) (address_in Unwrapped next i) (pos next)

-- each of these targets is an address, 0 to 65,535
abbrev pub Inside : List ℤ → Type 0
Inside [] = Unit {0}
Inside (t ∷ ts) = (no_address t ≡ false) × Inside ts

-- in wrapping mode every target is an address
abbrev pub WrappingInside : Type 0
WrappingInside = (position : ℕ) (i : Instr) (ts : List ℤ) → targets_answer Wrapping position i ≡ accepted ts → Inside ts

-- where each of document 01's targets is an address, the modes have the same targets
abbrev pub TargetsAlike : Type 0
TargetsAlike =
    (position : ℕ) (i : Instr) → Inside (targets_in Unwrapped (next_of position i) i)
    → targets_answer Wrapping position i ≡ targets_answer Unwrapped position i

-- where not, they differ: `01 80` at 0 leaves memory downward and a Nop at 65,535 upward; 14 is judged on the unwrapped next in both
abbrev pub ModesTargets : Type 0
ModesTargets =
    (decode_answer (0x01 ∷ 0x80 ∷ []) ≡ accepted (Br (negsuc 127)))
    × (targets_answer Unwrapped 0 (Br (negsuc 127)) ≡ accepted (negsuc 125 ∷ []))
    × (targets_answer Wrapping 0 (Br (negsuc 127)) ≡ accepted (pos 65410 ∷ []))
    × (targets_answer Unwrapped 65535 Nop ≡ accepted (pos 65536 ∷ []))
    × (targets_answer Wrapping 65535 Nop ≡ accepted (pos 0 ∷ []))
    × (targets_answer Unwrapped 65536 Nop ≡ refused 14 (pos 65537 ∷ []))
    × (targets_answer Wrapping 65536 Nop ≡ refused 14 (pos 65537 ∷ []))
