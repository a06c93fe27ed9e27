-- The number and values of what targets answers tell all cases apart: they are read back.
-- Assumes nothing.
use mathlib.Core.Path.{◌≡◌, refl}
use mathlib.Core.Bool.{cond}
use mathlib.Core.List.{List, [], ◌∷◌}
use lib.Dec.{eqb}
use lib.IntN.{ℤ}
use Rattle.std.specs.Prelude.{Result, Ok, Err}
use Rattle.instruction.specs.Answer.{Answer, accepted, refused}
use Rattle.trace_laws.specs.ClaimsTargets.{TargetsApart}
use Rattle.targets.specs.Targets.{targets_of}
use Rattle.targets.specs.declared.target.Targets.{Targets}
use Rattle.targets.specs.declared.target.Targets.TheVariants.{Nowhere, One, Two}
use Rattle.targets.specs.declared.target.TargetsError.{TargetsError}
use Rattle.targets.specs.declared.target.TargetsError.TheVariants.{PastEnd, Unfit}
use Rattle.instruction_laws.proofs.Undone.{undone, number_at, misfit}

abbrev among : List ℤ → Targets
among [] = Nowhere
among (t ∷ []) = One t
among (t ∷ u ∷ ts) = Two t u

abbrev answered : Answer (List ℤ) → Result Targets TargetsError
answered (accepted ts) = Ok (among ts)
answered (refused n vs) = Err (cond (eqb n 14) (PastEnd (number_at vs 0)) (Unfit (misfit vs)))

back : (r : Result Targets TargetsError) → answered (targets_of r) ≡ r
back (Ok Nowhere) = refl
back (Ok (One t)) = refl
back (Ok (Two t u)) = refl
back (Err (PastEnd n)) = refl
back (Err (Unfit m)) = refl

pub targets_apart : TargetsApart
targets_apart = undone targets_of answered back
