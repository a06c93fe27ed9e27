-- What a form reads out of bytes: the pattern of a form reads as the layout of its shape does, since fixed bits give nothing to a field.
-- Assumes nothing.
use Rattle.std.proofs.Common.{◌≡◌, ℕ, suc, ◌<◌, List, [], ◌∷◌, map, get_or, ℤ, sym, refl, ap, ◌∙◌}
use lib.ListN.{length-map}
use Rattle.instruction.specs.Bytes.{Bytes}
use Rattle.instruction.specs.Kinds.{kind_at}
use Rattle.instruction.specs.declared.kind.Shape.{Shape}
use Rattle.instruction.specs.Code.{operand_of}
use Rattle.instruction.specs.Layout.{blank, fields_by}
use Rattle.instruction.specs.Pattern.{Bit, O, I, of, part, field}
use Rattle.instruction.specs.declared.layout.Fields.{Fields}
use Rattle.instruction.proofs.FieldReading.{closed, read as read_by}
use Rattle.instruction.specs.Decode.{fields_in}
use Rattle.instruction.specs.Forms.{form_at, bits}
use Rattle.instruction.specs.declared.instr.Parts.{Parts}
use Rattle.instruction.proofs.Shapes.{freed, free, laid}

abbrev pub make : ℕ → ℤ → ℤ → ℤ → Parts
make k a b c = record { form = k; a = a; b = b; c = c }

-- fields as the operands of a form
abbrev pub formed : ℕ → Fields → Parts
formed k f = make k f.a f.b f.c

part_free : (l : ℕ) (p : List Bit) (n : ℕ) → part l (map freed p) n ≡ part l p n
unfolding freed
part_free l [] n = refl
part_free l (O ∷ xs) n = rw (part_free l xs n)
part_free l (I ∷ xs) n = rw (part_free l xs n)
part_free l (of m k ∷ xs) n = rw (part_free l xs n, length-map xs freed)

field_free : (l : ℕ) (ps : List (List Bit)) (s : List ℕ) (i : ℕ) → field l (free ps) s i ≡ field l ps s i
field_free l [] s i = refl
field_free l (p ∷ ps) s i = rw (part_free l p (get_or s i 0), field_free l ps s (suc i))

pub make4 : {k k' : ℕ} {a a' b b' c c' : ℤ} → k ≡ k' → a ≡ a' → b ≡ b' → c ≡ c' → make k a b c ≡ make k' a' b' c'
make4 o p q r = cc

pub make3 : (k : ℕ) {a a' b b' c c' : ℤ} → a ≡ a' → b ≡ b' → c ≡ c' → make k a b c ≡ make k a' b' c'
make3 k p q r = make4 refl p q r

pub by_shape : (k : ℕ) → k < 70 → (s : List ℕ) → formed k (fields_by (form_at k).shape s) ≡ fields_in k s
unfolding fields_in fields_by
by_shape k h s = make3 k (at 0) (at 1) (at 2)
  where
    at : (l : ℕ) → operand_of (kind_at (form_at k).shape l) (field l (blank (form_at k).shape) s 0)
        ≡ operand_of (kind_at (form_at k).shape l) (field l (bits (form_at k)) s 0)
    at l =
        ap (operand_of (kind_at (form_at k).shape l)) (ap (λ (ps : List (List Bit)). field l ps s 0) (sym (laid k h)) ∙ field_free l (bits (form_at k)) s 0)

pub read : (k : ℕ) (t : Shape) (s : List ℕ) → k < 70 → t ≡ (form_at k).shape → Bytes s → formed k (closed t (get_or s 0 0) (get_or s 1 0) (get_or s 2 0)) ≡ fields_in k s
read k t s h e b = ap (formed k) (read_by t s b ∙ ap (λ (u : Shape). fields_by u s) e) ∙ by_shape k h s
