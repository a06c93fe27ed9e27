-- What a number has that no form has: no operands, no bytes and no letters.
-- Assumes nothing.
use Rattle.std.proofs.Common.{◌≡◌, ℕ, ◌≤◌, ap}
use lib.ListN.{get_or-eq_default}
use Rattle.instruction.specs.Forms.{Form, form, forms, form_at, size_of}
use Rattle.instruction.specs.Kinds.{kinds_of, three_of}
use Rattle.instruction.specs.Mnemonic.{mnemonic_of, letters_of, packed_letters}
use Rattle.instruction.specs.Pattern.{pattern, pattern_bytes}
use Rattle.instruction.specs.declared.instr.Instr.TheVariants.{Nop}
use Rattle.instruction.specs.declared.kind.Kind.TheVariants.{Absent}
use Rattle.instruction.specs.declared.kind.Kinds.{Kinds}
use Rattle.instruction.specs.declared.kind.Shape.TheVariants.{Bare}

module _ (k : ℕ) (h : 70 ≤ k) where
  none : form_at k ≡ form "" Bare "" (λ a b c. Nop)
  unfolding form_at forms
  none = get_or-eq_default forms _ h

  abbrev absent : Kinds
  absent = record { a = Absent; b = Absent; c = Absent }

  pub no_kinds : three_of (form_at k).shape ≡ absent
  unfolding kinds_of
  no_kinds = ap (λ (w : Form). three_of w.shape) none

  pub no_bytes : size_of (form_at k) ≡ 0
  unfolding pattern pattern_bytes
  no_bytes = ap (λ (w : Form). size_of w) none

  pub no_letters : packed_letters (mnemonic_of k) ≡ 0
  unfolding mnemonic_of letters_of packed_letters
  no_letters = ap (λ (w : Form). packed_letters (letters_of w.name)) none
