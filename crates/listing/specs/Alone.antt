-- Of inner functions: operands shown one by one, each with the target of its own number, and the line of what decode answers. Document 01,
-- 'The listing'.
-- Assumes nothing.
use Rattle.std.specs.Prelude.{ℕ, List, [], ◌∷◌, ◌++◌, ℤ, nat_abs}
use Rattle.instruction.specs.Answer.{Answer, accepted, refused}
use Rattle.instruction.specs.Forms.{form_at}
use Rattle.instruction.specs.Kinds.{kind_at}
use Rattle.instruction.specs.Mnemonic.{mnemonic_of, packed_letters}
use Rattle.instruction.specs.declared.instr.Instr.{Instr}
use Rattle.instruction.specs.declared.instr.Parts.{Parts}
use Rattle.instruction.specs.declared.kind.Kind.{Kind}
use Rattle.instruction.specs.declared.mode.Mode.{Mode}
use Rattle.targets.specs.Asked.{operand_place}
use Rattle.text.specs.Puts.{letters}
use Rattle.listing.specs.Lines.{instr_text}
use Rattle.listing.specs.Operand.{shown, shown_field}

-- an operand of a kind with a number, of an instruction that ends at next
abbrev pub shown_alone : Mode → ℕ → Kind → ℤ → List ℕ
shown_alone mode next k z = shown (operand_place mode next k z) k (nat_abs z)

-- a tab and the operand, if there is one
abbrev pub field_alone : Mode → ℕ → Kind → ℤ → List ℕ
field_alone mode next k z = shown_field (operand_place mode next k z) k (nat_abs z)

-- the three, and byte 10
unfoldable pub operands_alone : Mode → ℕ → Parts → List ℕ
operands_alone mode next v =
    let k : ℕ → Kind = kind_at (form_at v.form).shape in
    field_alone mode next (k 0) v.a ++ (field_alone mode next (k 1) v.b ++ (field_alone mode next (k 2) v.c ++ (10 ∷ [])))

-- the mnemonic before them
unfoldable pub rest_alone : Mode → ℕ → Parts → List ℕ
rest_alone mode next v = 9 ∷ letters 8 (packed_letters (mnemonic_of v.form)) ++ operands_alone mode next v

-- the line at p of the instruction that these bytes begin with, none where decode refuses
abbrev pub text_of : Mode → ℕ → List ℕ → Answer Instr → List ℕ
text_of mode p bytes (accepted i) = instr_text mode p i bytes
text_of mode p bytes (refused n vs) = []
