-- Where no target leaves memory, control goes the same way from an instruction that is not cut off, and it names the same.
-- Assumes nothing.
use mathlib.Core.Path.{◌≡◌, refl, ap}
use mathlib.Core.Bool.{true}
use mathlib.Core.List.{List, map}
use Prim.Native.Nat.{ℕ, ◌+◌}
use lib.IntN.{ℤ, pos}
use Rattle.instruction.specs.Flow.{flow_of}
use Rattle.instruction.specs.Parts.{parts_of}
use Rattle.instruction.specs.declared.flow.Flow.{Flow}
use Rattle.instruction.specs.declared.flow.Flow.TheVariants.{Stop, Next, Jump, Branch}
use Rattle.instruction.specs.declared.mode.Mode.TheVariants.{Unwrapped, Wrapping}
use Rattle.reach.specs.ClaimsAlike.{SameWays}
use Rattle.marks.specs.Tracer.{tracer_of}
use Rattle.targets.specs.At.{size_here, fits_here, instr_here, place_of, ways_here, named_by, name_here}
use Rattle.targets.specs.Targets.{address_in, by_flow, targets_in}
use Rattle.trace_laws.specs.ClaimsModes.{Inside}
use Rattle.trace_laws.specs.ClaimsModesAlike.{Stays}
use Rattle.trace_laws.proofs.ClaimsModesTargets.{same_address, same_targets}

module _ (image : List ℕ) (S : Stays image) where
  pub ways_same : SameWays (tracer_of Unwrapped image) (ways_here Wrapping image)
  unfolding ways_here
  ways_same p f = ap (λ (ts : List ℤ). map place_of ts) (same_targets (p + size_here image p) (instr_here image p) (S p f))

  pub name_same : (p : ℕ) → fits_here image p ≡ true → name_here Wrapping image p ≡ name_here Unwrapped image p
  unfolding name_here targets_in
  name_same p f = by (flow_of (parts_of (instr_here image p)).form) (S p f)
    where
      by : (g : Flow) → Inside (by_flow g (address_in Unwrapped (p + size_here image p) (instr_here image p)) (pos (p + size_here image p)))
          → named_by g (place_of (address_in Wrapping (p + size_here image p) (instr_here image p)))
          ≡ named_by g (place_of (address_in Unwrapped (p + size_here image p) (instr_here image p)))
      by Stop h = refl
      by Next h = refl
      by Jump h = ap (λ (t : ℤ). place_of t) (same_address (p + size_here image p) (instr_here image p) h.0)
      by Branch h = ap (λ (t : ℤ). place_of t) (same_address (p + size_here image p) (instr_here image p) h.0)
