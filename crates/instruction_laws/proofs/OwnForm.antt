-- The bytes of an instruction with others behind them begin with its form: they have the fixed bits of its pattern (`Filled`) and of no
-- other (`Matching`).
-- Assumes nothing.
use mathlib.Core.Path.{◌≡◌, refl}
use mathlib.Core.List.{List, [], ◌∷◌, ◌++◌}
use Prim.Native.Nat.{ℕ, ◌+◌, ◌<◌, ◌≤◌}
use native.Mathlib.Nat.{not-suc-le-zero}
use native.Mathlib.Omega.{arith}
use lib.ListN.{length, get_or, length-append}
use Rattle.instruction.specs.Bytes.{Bytes}
use Rattle.instruction.specs.Encode.{form_in, instr_bytes}
use Rattle.instruction.specs.Forms.{form_of, bits, size_of}
use Rattle.instruction.specs.Parts.{parts_of}
use Rattle.instruction.specs.Pattern.{Bit, value, filled}
use Rattle.instruction.specs.declared.instr.Instr.{Instr}
use Rattle.instruction.proofs.Known.{known}
use Rattle.instruction.proofs.Shapes.{size_range}
use Rattle.instruction_laws.proofs.Bytes.{append}
use Rattle.instruction_laws.proofs.EncodedBytes.{encoded_bytes}
use Rattle.instruction_laws.proofs.Filled.{filled_agrees}
use Rattle.instruction_laws.proofs.FirstByte.{fixed_of, held, first_is}
use Rattle.instruction_laws.proofs.Matching.{one_pattern}
use Rattle.instruction_laws.proofs.Numbers.{shape_of}

-- a byte string is long enough for the form of an instruction, which is the form of its first byte
pub record Begins (i : Instr) (s : List ℕ) : Type 0 where
  pub all : Bytes s
  pub long : size_of (form_in i) ≤ length s
  pub form : form_of (get_or s 0 0) ≡ (parts_of i).form
  pub first : fixed_of (parts_of i).form + held (shape_of (parts_of i)) (get_or s 0 0) ≡ get_or s 0 0

-- the first byte fills the first byte of the pattern
head : (ps : List (List Bit)) (ns t : List ℕ) → 0 < length ps → get_or (filled ps ns ++ t) 0 0 ≡ value (get_or ps 0 []) ns
head [] ns t h = absurd (not-suc-le-zero h)
head (p ∷ ps) ns t h = refl

module _ (i : Instr) (rest : List ℕ) (others : Bytes rest) where
  abbrev s : List ℕ
  s = instr_bytes i ++ rest

  all : Bytes s
  all = append (instr_bytes i) rest (encoded_bytes i).small others

  own : form_of (get_or s 0 0) ≡ (parts_of i).form
  unfolding instr_bytes
  own =
      (one_pattern (get_or s 0 0) (all 0)).only (parts_of i).form (known i).small
      (rw (head (bits (form_in i)) _ rest (size_range (parts_of i).form (known i).small).0) (filled_agrees (get_or (bits (form_in i)) 0 []) _))

  pub begins : Begins i s
  begins =
      record {
        all = all;
        long = rw (length-append, (encoded_bytes i).size) (omega arith);
        form = own;
        first = rw own at (first_is (get_or s 0 0) (all 0));
      }
