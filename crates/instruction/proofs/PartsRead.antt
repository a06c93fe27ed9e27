-- What a form reads out of bytes are the parts of the instruction made of it: an operand that the form has not is read as 0. It is computed for
-- every form at once.
-- Assumes nothing.
use Rattle.std.proofs.Common.{◌≡◌, ℕ, ◌<◌, eqb, List, get_or, refl, ap, ◌∙◌, subst, eqb→eq}
use Rattle.instruction.specs.Bytes.{Bytes}
use Rattle.instruction.specs.Decode.{fields_in}
use Rattle.instruction.specs.Forms.{Form, forms, form_at, form_named}
use Rattle.instruction.specs.Parts.{parts_of, made_of}
use Rattle.instruction.specs.declared.instr.Parts.{Parts}
use Rattle.instruction.specs.declared.layout.Fields.{Fields}
use Rattle.instruction.proofs.Every.{holds}
use Rattle.instruction.proofs.FieldReading.{closed}
use Rattle.instruction.proofs.Reading.{formed, read}
use Rattle.instruction.proofs.Shapes.{at_each}

-- the form's name gives its number
pub numbered : (k : ℕ) → k < 70 → form_named (form_at k).name ≡ k
unfolding form_named form_at forms
numbered k h = eqb→eq (form_named (form_at k).name) k (holds (λ j. eqb (form_named (form_at j).name) j) 70 tt k h)

abbrev taken : Form → ℕ → ℕ → ℕ → Parts
taken w x p q = let f : Fields = closed w.shape x p q in parts_of (w.make f.a f.b f.c)

abbrev kept : Form → ℕ → ℕ → ℕ → Parts
kept w x p q = formed (form_named w.name) (closed w.shape x p q)

each : (k : ℕ) → k < 70 → taken (form_at k) ≡ kept (form_at k)
unfolding forms parts_of closed
each = at_each taken kept refl

by_closed : (k x p q : ℕ) → k < 70 → parts_of (made_of (formed k (closed (form_at k).shape x p q))) ≡ formed k (closed (form_at k).shape x p q)
unfolding made_of
by_closed k x p q h =
    ap (λ (f : ℕ → ℕ → ℕ → Parts). f x p q) (each k h) ∙ ap (λ (j : ℕ). formed j (closed (form_at k).shape x p q)) (numbered k h)

pub parts_read : (k : ℕ) → k < 70 → (s : List ℕ) → Bytes s → parts_of (made_of (fields_in k s)) ≡ fields_in k s
parts_read k h s b =
    subst (λ (v : Parts). parts_of (made_of v) ≡ v) (read k (form_at k).shape s h refl b) (by_closed k (get_or s 0 0) (get_or s 1 0) (get_or s 2 0) h)
