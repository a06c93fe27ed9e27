-- What the form of a first byte reads out of a byte string: operands, each with a number that fits its field, which fill the pattern again.
-- Assumes nothing.
use mathlib.Core.Path.{◌≡◌, refl, sym, ◌∙◌}
use mathlib.Core.List.{List, [], ◌∷◌}
use Prim.Native.Nat.{ℕ, ◌<◌}
use lib.ListN.{length, get_or, take}
use Rattle.instruction.specs.Bytes.{Bytes}
use Rattle.instruction.specs.Decode.{fields_in}
use Rattle.instruction.specs.Forms.{form_at, form_of}
use Rattle.instruction.specs.declared.instr.Parts.{Parts}
use Rattle.instruction.specs.declared.kind.Shape.{Shape}
use Rattle.instruction.proofs.Reading.{read}
use Rattle.instruction.specs.Layout.{blank}
use Rattle.instruction.proofs.FieldWriting.{written}
use Rattle.instruction_laws.proofs.EveryKind.{law}
use Rattle.instruction_laws.proofs.FirstByte.{fixed_of, first_is}
use Rattle.instruction_laws.proofs.Forth.{Read, read_by}
use Rattle.instruction_laws.proofs.Matching.{one_pattern}
use Rattle.instruction_laws.proofs.Numbers.{operands, shape_of, Numbers}

-- the form that a byte string begins with
abbrev pub form_first : List ℕ → ℕ
form_first s = form_of (get_or s 0 0)

-- the parts v that it reads, and their numbers a, b and c
pub record FormReads (s : List ℕ) : Type 0 where
  pub v : Parts
  pub a : ℕ
  pub b : ℕ
  pub c : ℕ
  pub form : v.form ≡ form_first s
  pub fields : fields_in (form_first s) s ≡ v
  pub numbers : Numbers v a b c
  pub bytes : take (length (blank (shape_of v))) (written (shape_of v) (fixed_of v.form) a b c)
      ≡ take (length (blank (shape_of v))) (get_or s 0 0 ∷ get_or s 1 0 ∷ get_or s 2 0 ∷ [])

pub form_reads : (s : List ℕ) → Bytes s → FormReads s
form_reads s b =
    let k : ℕ = form_first s in
    let t : Shape = (form_at k).shape in
    let small : k < 70 = (one_pattern (get_or s 0 0) (b 0)).form in
    let r : Read t k (fixed_of k) (get_or s 0 0) (get_or s 1 0) (get_or s 2 0) = read_by k (fixed_of k) _ _ _ (b 0) (b 1) (b 2) t (first_is (get_or s 0 0) (b 0)) in
    record {
      v = operands t k r.a r.b r.c;
      a = r.a;
      b = r.b;
      c = r.c;
      form = refl;
      fields = sym (read k t s small refl b) ∙ r.reads;
      numbers = record {
        form = small;
        first = (law _).number r.a r.fit.0;
        second = (law _).number r.b r.fit.1;
        third = (law _).number r.c r.fit.2;
      };
      bytes = r.bytes;
    }
