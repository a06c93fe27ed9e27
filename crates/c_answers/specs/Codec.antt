-- The values of the calls on instructions where they are accepted. Document 01, 'Forms', 'Targets' and 'Resolving operands'.
-- Assumes nothing.
use Rattle.std.specs.Prelude.{ℕ, List, [], ◌∷◌, ℤ, pos, length}
use Rattle.instruction.specs.Encode.{form_in}
use Rattle.instruction.specs.Forms.{form_at, size_of}
use Rattle.instruction.specs.Grid.{rule_of}
use Rattle.instruction.specs.Parts.{parts_of, made_of}
use Rattle.instruction.specs.declared.instr.Instr.{Instr}
use Rattle.instruction.specs.declared.instr.Parts.{Parts}

-- the instruction that a call names: the form of a first byte with three operands, of which it takes those that it has
abbrev pub named : ℕ → ℤ → ℤ → ℤ → Instr
named first a b c = made_of (record { form = rule_of first; a = a; b = b; c = c })

-- an instruction: the number of its form, its size, and its operands in the order shown, 0 where it has none
abbrev pub instr_values : Instr → List ℤ
instr_values i = pos (parts_of i).form ∷ pos (size_of (form_in i)) ∷ (parts_of i).a ∷ (parts_of i).b ∷ (parts_of i).c ∷ []

-- the same of its parts
abbrev pub parts_values : Parts → List ℤ
parts_values v = pos v.form ∷ pos (size_of (form_at v.form)) ∷ v.a ∷ v.b ∷ v.c ∷ []

-- how many targets, then the targets
abbrev pub targets_values : List ℤ → List ℤ
targets_values ts = pos (length ts) ∷ ts
