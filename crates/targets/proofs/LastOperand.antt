-- The address that an instruction names is that of the last operand that it has.
-- Assumes nothing.
use Rattle.std.proofs.Common.{◌≡◌, ℕ, true, false}
use Rattle.instruction.specs.Kinds.{kind_at, is_given}
use Rattle.instruction.specs.declared.kind.Kind.{Kind}
use Rattle.instruction.specs.Encode.{form_in}
use Rattle.instruction.specs.Parts.{parts_of}
use Rattle.instruction.specs.declared.instr.Instr.{Instr}
use Rattle.instruction.specs.declared.mode.Mode.{Mode}
use Rattle.targets.specs.Targets.{address_of, address_in}

module _ (mode : Mode) (next : ℕ) (i : Instr) where
  abbrev k : ℕ → Kind
  k n = kind_at (form_in i).shape n

  pub third : is_given (k 2) ≡ true → address_of mode next (k 2) (parts_of i).c ≡ address_in mode next i
  unfolding address_in
  third p = rw p

  pub second : is_given (k 2) ≡ false → is_given (k 1) ≡ true → address_of mode next (k 1) (parts_of i).b ≡ address_in mode next i
  unfolding address_in
  second p q = rw (p, q)

  pub first : is_given (k 2) ≡ false → is_given (k 1) ≡ false → address_of mode next (k 0) (parts_of i).a ≡ address_in mode next i
  unfolding address_in
  first p q = rw (p, q)
