-- The position that one operand names, by the tests that led there.
-- Assumes nothing.
use Rattle.std.proofs.Common.{◌≡◌, ℕ, ◌<◌, ◌≤◌, true, false, ℤ, arith, le-ltb, lt-ltb, eq-eqb, ne_eqb}
use Rattle.instruction.specs.Range.{unfit}
use Rattle.instruction.specs.declared.kind.Kind.{Kind}
use Rattle.instruction.specs.declared.mode.Mode.{Mode}
use Rattle.targets.specs.Asked.{operand_place}
use Rattle.targets.specs.At.{place_of}
use Rattle.targets.specs.Targets.{address_of}

module _ (mode : Mode) (next : ℕ) (k : Kind) (z : ℤ) where
  pub at_zero : next ≡ 0 → 65536 ≡ operand_place mode next k z
  unfolding operand_place
  at_zero e = rw (eq-eqb next 0 e)

  pub past_memory : 65536 < next → 65536 ≡ operand_place mode next k z
  unfolding operand_place
  past_memory h = rw (ne_eqb next 0 (λ e. omega arith), lt-ltb 65536 next h)

  module _ (some : next ≡ 0 → ⊥) (near : next ≤ 65536) where
    pub not_fitting : unfit k z ≡ true → 65536 ≡ operand_place mode next k z
    unfolding operand_place
    not_fitting e = rw (ne_eqb next 0 some, le-ltb 65536 next near, e)

    pub names : unfit k z ≡ false → place_of (address_of mode next k z) ≡ operand_place mode next k z
    unfolding operand_place
    names e = rw (ne_eqb next 0 some, le-ltb 65536 next near, e)
