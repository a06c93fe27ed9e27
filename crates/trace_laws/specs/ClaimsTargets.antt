-- What is claimed of targets. Document 01, 'Targets', 'Resolving operands' and 'Forms by place'.
-- Assumes nothing.
use Rattle.std.specs.Prelude.{ℕ, ◌-◌, ◌≤◌, [], ◌∷◌, ◌≡◌, ℤ, pos}
use Rattle.instruction.specs.Answer.{accepted, Apart}
use Rattle.instruction.specs.Encode.{form_in}
use Rattle.instruction.specs.Flow.{flow_of}
use Rattle.instruction.specs.Forms.{size_of}
use Rattle.instruction.specs.Parts.{parts_of}
use Rattle.instruction.specs.Resolve.{resolve_answer}
use Rattle.instruction.specs.declared.flow.Flow.TheVariants.{Jump, Branch}
use Rattle.instruction.specs.declared.instr.Instr.{Instr}
use Rattle.instruction.specs.declared.mode.Mode.{Mode}
use Rattle.targets.specs.Targets.{in_mode, last_of, targets_of, targets_answer}

-- the number and values of the answers tell all cases and all values apart
abbrev pub TargetsApart : Type 0
TargetsApart = Apart targets_of

-- the number that stands in the last operand of an instruction: of a jump, branch or call as written, the address
unfoldable pub last_in : Instr → ℤ
last_in i = last_of (form_in i).shape (parts_of i).a (parts_of i).b (parts_of i).c

-- resolve and targets undo each other in the same mode: where resolve makes j of the instruction i as written, for a base that is at least the size, the
-- address written in i is the first target of j at the position whose next is the base
pub record TargetsUndoResolve (mode : Mode) : Type 0 where
  -- Br, Brf, Jmp, Jmpf: it alone
  pub jump : (i : Instr) (base : ℕ) (j : Instr) → flow_of (parts_of i).form ≡ Jump → size_of (form_in i) ≤ base → resolve_answer mode i base ≡ accepted j
      → targets_answer mode (base - size_of (form_in i)) j ≡ accepted (last_in i ∷ [])
  -- the conditional branches and the calls: it, then next as the mode takes it
  pub branch : (i : Instr) (base : ℕ) (j : Instr) → flow_of (parts_of i).form ≡ Branch → size_of (form_in i) ≤ base → resolve_answer mode i base ≡ accepted j
      → targets_answer mode (base - size_of (form_in i)) j ≡ accepted (last_in i ∷ in_mode mode (pos base) ∷ [])
