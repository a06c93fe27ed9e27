-- The answers of resolve, and those for the operands alone, are told apart: number and values are read back, as in `Apart`.
-- Assumes nothing.
use mathlib.Core.Path.{◌≡◌, refl}
use mathlib.Core.Bool.{cond}
use mathlib.Core.List.{List}
use Prim.Native.Nat.{ℕ}
use lib.Dec.{eqb}
use lib.IntN.{ℤ}
use Rattle.instruction.specs.Answer.{Answer, accepted, refused, Apart}
use Rattle.instruction.specs.ResolveOperand.{resolution_of}
use Rattle.instruction.specs.declared.layout.Fields.{Fields}
use Rattle.instruction.specs.Resolve.{resolved_of}
use Rattle.instruction.specs.declared.instr.Instr.{Instr}
use Rattle.instruction.specs.declared.resolve_operand.ResolveError.{ResolveError}
use Rattle.instruction.specs.declared.resolve_operand.ResolveError.TheVariants.{FarBase, Operand}
use Rattle.instruction.specs.declared.resolve_operand.OperandError.{OperandError}
use Rattle.instruction.specs.declared.resolve_operand.OperandError.TheVariants.{Unfit, NoAddress, TooFar, OtherPage}
use Rattle.std.specs.Prelude.{Result, Ok, Err}
use Rattle.instruction_laws.proofs.Undone.{undone, value_at, number_at, misfit, tops}

abbrev why : ℕ → List ℤ → OperandError
why n vs =
    cond (eqb n 7) (Unfit (misfit vs)) (cond (eqb n 8) (NoAddress (value_at vs 0)) (cond (eqb n 9) (TooFar (value_at vs 0)) (OtherPage (tops vs))))

abbrev resolved : {A : Type 0} → Answer A → Result A ResolveError
resolved (accepted i) = Ok i
resolved (refused n vs) = Err (cond (eqb n 14) (FarBase (number_at vs 0)) (Operand (why n vs)))

resolve : (r : Result Instr ResolveError) → resolved (resolved_of r) ≡ r
resolve (Ok i) = refl
resolve (Err (FarBase b)) = refl
resolve (Err (Operand (Unfit m))) = refl
resolve (Err (Operand (NoAddress z))) = refl
resolve (Err (Operand (TooFar z))) = refl
resolve (Err (Operand (OtherPage t))) = refl

pub resolved_apart : Apart resolved_of
resolved_apart = undone resolved_of resolved resolve

resolution : (r : Result Fields ResolveError) → resolved (resolution_of r) ≡ r
resolution (Ok f) = refl
resolution (Err (FarBase b)) = refl
resolution (Err (Operand (Unfit m))) = refl
resolution (Err (Operand (NoAddress z))) = refl
resolution (Err (Operand (TooFar z))) = refl
resolution (Err (Operand (OtherPage t))) = refl

pub resolution_apart : Apart resolution_of
resolution_apart = undone resolution_of resolved resolution
