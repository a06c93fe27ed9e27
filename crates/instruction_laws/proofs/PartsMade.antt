-- Parts and instructions: what a form makes of operands is taken apart to its number and those of the operands that it has, which is
-- computed for every form at once.
-- Assumes nothing.
use mathlib.Core.Path.{◌≡◌, refl, ap}
use Prim.Native.Nat.{ℕ, ◌<◌}
use lib.IntN.{ℤ}
use Rattle.instruction.specs.Forms.{Form, forms, form_at}
use Rattle.instruction.specs.Kinds.{kinds_of}
use Rattle.instruction.specs.Parts.{parts, parts_of, made_of}
use Rattle.instruction.specs.declared.instr.Parts.{Parts}
use Rattle.instruction.proofs.Known.{known}
use Rattle.instruction.proofs.PartsRead.{numbered}
use Rattle.instruction.proofs.Shapes.{at_each}
use Rattle.instruction_laws.specs.PartsMade.{used_in, PartsMade}

abbrev taken : Form → ℤ → ℤ → ℤ → Parts
taken w a b c = parts_of (w.make a b c)

abbrev kept : Form → ℤ → ℤ → ℤ → Parts
kept w a b c = used_in w.shape (parts w.name a b c)

each : (k : ℕ) → k < 70 → taken (form_at k) ≡ kept (form_at k)
unfolding forms parts_of kinds_of
each = at_each taken kept refl

pub parted : (v : Parts) → v.form < 70 → parts_of (made_of v) ≡ used_in (form_at v.form).shape v
unfolding made_of
parted v h = rw (ap (λ (f : ℤ → ℤ → ℤ → Parts). f v.a v.b v.c) (each v.form h), numbered v.form h)

pub parts_made : PartsMade
parts_made = record { made = λ i. (known i).made; parted = parted }
