-- Document 01, 'Forms' and 'What must change shape': an instruction is its form and the operands of that form, no more and no less.
-- Assumes nothing.
use Rattle.std.specs.Prelude.{◌<◌, ◌≡◌, ℤ, pos}
use Rattle.instruction.specs.Forms.{form_at}
use Rattle.instruction.specs.Kinds.{kind_at}
use Rattle.instruction.specs.Parts.{parts_of, made_of}
use Rattle.instruction.specs.declared.instr.Instr.{Instr}
use Rattle.instruction.specs.declared.instr.Parts.{Parts}
use Rattle.instruction.specs.declared.kind.Kind.{Kind}
use Rattle.instruction.specs.declared.kind.Kind.TheVariants.{Absent, Immediate, Direct, Register, BitNumber, Page, Far, Short, Long}
use Rattle.instruction.specs.declared.kind.Shape.{Shape}

-- an operand that a form has, and 0 for one that it has not
abbrev pub used : Kind → ℤ → ℤ
used Absent z = pos 0
used Immediate z = z
used Direct z = z
used Register z = z
used BitNumber z = z
used Page z = z
used Far z = z
used Short z = z
used Long z = z

abbrev pub used_in : Shape → Parts → Parts
used_in s v = record { form = v.form; a = used (kind_at s 0) v.a; b = used (kind_at s 1) v.b; c = used (kind_at s 2) v.c }

pub record PartsMade : Type 0 where
  -- an instruction taken apart and put together is itself
  pub made : (i : Instr) → made_of (parts_of i) ≡ i
  -- parts put together and taken apart are the form and the operands that it has
  pub parted : (v : Parts) → v.form < 70 → parts_of (made_of v) ≡ used_in (form_at v.form).shape v
