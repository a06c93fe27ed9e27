-- Encode after decode gives the bytes back. What a form reads are operands that fit (`FormReads`), and the instruction made of them has no
-- other (`PartsMade`); so encode fills the form's pattern with the numbers read.
-- Assumes nothing.
use mathlib.Core.Path.{◌≡◌, sym, refl, ◌∙◌}
use mathlib.Core.List.{List}
use Prim.Native.Nat.{ℕ, ◌≤◌}
use lib.ListN.{length, take}
use borrow.Author.Tests.{ltb-false}
use Rattle.instruction.specs.Answer.{accepted}
use Rattle.instruction.specs.Decode.{decode_answer, fields_in}
use Rattle.instruction.specs.Encode.{form_in, instr_bytes, fit_answer}
use Rattle.instruction.specs.Forms.{form_at, size_of}
use Rattle.instruction.specs.Parts.{parts_of, made_of}
use Rattle.instruction.specs.declared.instr.Instr.{Instr}
use Rattle.instruction.proofs.Encoding.{writes}
use Rattle.instruction.proofs.Reading.{make3}
use Rattle.instruction.proofs.Shapes.{sized, size_range}
use Rattle.instruction_laws.specs.RoundTrips.{Stands, EncodeDecoded}
use Rattle.instruction.proofs.Accepting.{passed, ended}
use Rattle.instruction_laws.proofs.Bytes.{firsts}
use Rattle.instruction_laws.proofs.FormReads.{form_first, FormReads, form_reads}
use Rattle.instruction_laws.proofs.Numbers.{shape_of, fit_by, bytes_by_lem}
use Rattle.instruction_laws.proofs.PartsMade.{parted}

module _ (s : List ℕ) (r : FormReads s) (long : size_of (form_at (form_first s)) ≤ length s) (i : Instr) (made : made_of (fields_in (form_first s) s) ≡ i) where
  apart : parts_of i ≡ r.v
  apart =
      rw (← made, r.fields)
      (parted r.v r.numbers.form ∙ make3 r.v.form r.numbers.first.kept r.numbers.second.kept r.numbers.third.kept)

  size : size_of (form_in i) ≤ length s
  size = rw (apart, r.form) long

  fit : fit_answer i ≡ accepted tt
  fit = fit_by i r.v apart r.numbers

  same : instr_bytes i ≡ take (size_of (form_in i)) s
  same =
      bytes_by_lem i r.v apart r.numbers ∙ r.bytes
      ∙ rw (sized r.v.form (shape_of r.v) r.numbers.form refl, ← apart)
      (firsts s (size_of (form_in i)) (rw apart (size_range r.v.form r.numbers.form).1) size)

  stands : Stands i s
  stands =
      record {
        size = size;
        fit = fit;
        bytes = same;
        answer = λ room o. sym (writes i room (sym fit) o _ refl).0;
        written = λ room o. sym (writes i room (sym fit) o _ refl).1 ∙ rw same;
      }

pub encode_decoded : EncodeDecoded
unfolding decode_answer
encode_decoded s a i e =
    let one = passed _ _ _ e in
    let two = passed _ _ _ one.1 in
    stands s (form_reads s a) (ltb-false (length s) (size_of (form_at (form_first s))) two.0) i (ended _ two.1)
