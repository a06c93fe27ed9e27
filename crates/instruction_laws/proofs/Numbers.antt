-- Numbers in the fields of a shape, the operands that they stand for, and an instruction that has these operands: its fields are in range, and
-- its bytes are what the shape writes of the numbers.
-- Assumes nothing.
use mathlib.Core.Path.{◌≡◌, refl, sym}
use Prim.Native.Nat.{ℕ, ◌<◌}
use lib.ListN.{length, take}
use Rattle.instruction.specs.Answer.{accepted}
use Rattle.instruction.specs.Code.{operand_of}
use Rattle.instruction.specs.Encode.{fit_answer, instr_bytes}
use Rattle.instruction.specs.Forms.{form_at}
use Rattle.instruction.specs.Kinds.{kind_at}
use Rattle.instruction.specs.Parts.{parts_of}
use Rattle.instruction.specs.declared.instr.Instr.{Instr}
use Rattle.instruction.specs.declared.instr.Parts.{Parts}
use Rattle.instruction.specs.declared.kind.Shape.{Shape}
use Rattle.instruction.proofs.Encoding.{fits}
use Rattle.instruction.proofs.Reading.{make}
use Rattle.instruction.proofs.Shapes.{sized}
use Rattle.instruction.specs.Layout.{blank}
use Rattle.instruction.proofs.Writing.{write}
use Rattle.instruction.proofs.FieldWriting.{written}
use Rattle.instruction_laws.proofs.Fields.{limit, Field}
use Rattle.instruction_laws.proofs.FirstByte.{fixed_of}

-- the numbers a, b and c fit the fields of a shape
abbrev pub In : Shape → ℕ → ℕ → ℕ → Type 0
In s a b c = (a < limit (kind_at s 0)) × (b < limit (kind_at s 1)) × (c < limit (kind_at s 2))

-- what they stand for in the form k
abbrev pub operands : Shape → ℕ → ℕ → ℕ → ℕ → Parts
operands s k a b c = make k (operand_of (kind_at s 0) a) (operand_of (kind_at s 1) b) (operand_of (kind_at s 2) c)

abbrev pub shape_of : Parts → Shape
shape_of v = (form_at v.form).shape

pub record Numbers (v : Parts) (a b c : ℕ) : Type 0 where
  pub form : v.form < 70
  pub first : Field (kind_at (shape_of v) 0) a v.a
  pub second : Field (kind_at (shape_of v) 1) b v.b
  pub third : Field (kind_at (shape_of v) 2) c v.c

module _ (i : Instr) (v : Parts) (p : parts_of i ≡ v) {a b c : ℕ} (n : Numbers v a b c) where
  pub fit_by : fit_answer i ≡ accepted tt
  fit_by = sym (fits i (rw p n.first.fit) (rw p n.second.fit) (rw p n.third.fit))

  pub bytes_by_lem : instr_bytes i ≡ take (length (blank (shape_of v))) (written (shape_of v) (fixed_of v.form) a b c)
  unfolding instr_bytes
  bytes_by_lem =
      rw (p, n.first.code, n.second.code, n.third.code, sized v.form (shape_of v) n.form refl)
      (sym (write v.form (shape_of v) a b c n.form refl (fixed_of v.form) refl))
