-- Decode after encode gives the instruction back, whatever follows. The bytes begin with the instruction's form (`OwnForm`), and its shape
-- reads the numbers that it wrote (`Back`).
-- Assumes nothing.
use mathlib.Core.Path.{◌≡◌, refl, sym, ◌∙◌}
use mathlib.Core.List.{List, ◌++◌}
use Prim.Native.Nat.{ℕ}
use native.Mathlib.Omega.{arith}
use lib.ListN.{length}
use Rattle.instruction.specs.Bytes.{Bytes}
use Rattle.instruction.specs.Answer.{accepted}
use Rattle.instruction.specs.Decode.{decode_answer, fields_in}
use Rattle.instruction.specs.Encode.{fit_answer, instr_bytes}
use Rattle.instruction.specs.Code.{code_of}
use Rattle.instruction.specs.Parts.{parts_of}
use Rattle.instruction.specs.declared.instr.Instr.{Instr}
use Rattle.instruction.specs.declared.instr.Parts.{Parts}
use Rattle.instruction.proofs.Decoding.{found}
use Rattle.instruction.proofs.Known.{known}
use Rattle.instruction.proofs.Reading.{make3, read}
use Rattle.instruction.proofs.Shapes.{size_range}
use Rattle.instruction_laws.specs.RoundTrips.{DecodeEncoded}
use Rattle.instruction_laws.proofs.Back.{strung, back_by}
use Rattle.instruction_laws.proofs.FirstByte.{fixed_of}
use Rattle.instruction_laws.proofs.Fitting.{Fitted, fitted}
use Rattle.instruction_laws.proofs.Numbers.{shape_of, bytes_by_lem}
use Rattle.instruction_laws.proofs.OwnForm.{Begins, begins}

module _ (i : Instr) (fit : fit_answer i ≡ accepted tt) (rest : List ℕ) (others : Bytes rest) where
  abbrev v : Parts
  v = parts_of i

  abbrev s : List ℕ
  s = instr_bytes i ++ rest

  starts : Begins i s
  starts = begins i rest others

  again : v ≡ fields_in v.form s
  again =
      let n : Fitted i = fitted i fit in
      let q : s ≡ strung v.form (fixed_of v.form) (code_of v.a) (code_of v.b) (code_of v.c) rest (shape_of v) = rw (bytes_by_lem i v refl n) in
      sym (make3 v.form n.first.operand n.second.operand n.third.operand)
      ∙ sym (rw q (back_by v.form (fixed_of v.form) _ _ _ rest (shape_of v) (n.first.less, n.second.less, n.third.less) (rw q at starts.first)))
      ∙ read v.form (shape_of v) s (known i).small refl starts.all

  some : length s ≡ 0 → ⊥
  some e = omega (arith, starts.long, (size_range v.form (known i).small).0)

  decoded : decode_answer s ≡ accepted i
  decoded = sym (found s some v.form (sym starts.form) starts.long v again i (sym (known i).made))

pub decode_encoded : DecodeEncoded
decode_encoded = decoded
