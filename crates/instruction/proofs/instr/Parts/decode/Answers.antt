-- What `Parts::decode` answers: the definition's, by the tests that led there.
-- Assumes nothing.
use Rattle.std.proofs.Common.{◌≡◌, ℕ, ◌-◌, length, get_or, sym, refl, ap, ◌∙◌, arith, w32, to_z, of_z, rules}
use Rattle.std.proofs.lemmas.Bool.Decides.{nat_tests}
use Rattle.instruction.specs.Answer.{accepted, refused}
use Rattle.instruction.specs.CutOff.{cut_values}
use Rattle.instruction.specs.declared.answer.CutOff.{CutOff}
use Rattle.instruction.specs.declared.kind.Shape.{Shape}
use Rattle.instruction.specs.Decode.{fields_in}
use Rattle.instruction.specs.declared.instr.Parts.{Parts}
use Rattle.instruction.specs.Layout.{fields_by}
use Rattle.instruction.specs.declared.layout.Fields.{Fields}
use Rattle.instruction.specs.Forms.{form_at, form_of, size_of}
use Rattle.instruction.specs.Parts.{made_of}
use Rattle.instruction.proofs.Decoding.{nothing, cut, cut_from_start, found, refused_parts, found_parts}
use Rattle.instruction.proofs.FirstBytes.{short}
use Rattle.instruction.proofs.PartsRead.{parts_read}
use Rattle.instruction.proofs.Reading.{make3, formed, by_shape}
use Rattle.instruction.proofs.Rule.{rule_is}
use Rattle.instruction.proofs.instr.Parts.decode.Goals as goal

pub returns-then-is_empty : goal.returns-then-is_empty
returns-then-is_empty c =
    let s = c.args.bytes.now in
    let e : length s ≡ 0 = grind (arith, nat_tests) in
    refused_parts s 12 _ (nothing s e)

pub overflow_cast-missing : goal.overflow_cast-missing
overflow_cast-missing c =
    let x : ℕ = get_or c.args.bytes.now 0 0 in
    record { fits = omega (arith, c.size_by-size.ensures, short x (c.type_inv.bytes 0).fits) }

pub returns-then-bytes-size : goal.returns-then-bytes-size
returns-then-bytes-size c =
    let s = c.args.bytes.now in
    let some : length s ≡ 0 → ⊥ = grind (arith, nat_tests) in
    let x : ℕ = get_or s 0 0 in
    let d : CutOff = record { position = 0; first = x; missing = c.size_by-size.result - length s } in
    let e = cut_from_start s d refl refl (ap (λ (k : ℕ). k - length s) c.size_by-size.ensures) in
    refused_parts s 5 _
    (ap (λ (d : CutOff). refused 5 (cut_values d)) e ∙ cut s some (form_of x) refl (rw c.size_by-size.ensures at c.if-bytes-size.true))

pub returns : goal.returns
returns c =
    let s = c.args.bytes.now in
    let some : length s ≡ 0 → ⊥ = grind (arith, nat_tests) in
    let x : ℕ = get_or s 0 0 in
    let k : ℕ = c.lookup-form.result in
    let f : Fields = c.read-f.result in
    let a : to_z w32 (of_z w32 f.a) ≡ f.a = search rules in
    let b : to_z w32 (of_z w32 f.b) ≡ f.b = search rules in
    let e : to_z w32 (of_z w32 f.c) ≡ f.c = search rules in
    let v : Parts = fields_in k s in
    let by_pattern : k ≡ form_of x = c.lookup-form.ensures.0 ∙ rule_is x (c.type_inv.bytes 0).fits in
    let shape : c.shape_by.result ≡ (form_at k).shape = c.shape_by.ensures ∙ ap (λ (j : ℕ). (form_at j).shape) (sym by_pattern) in
    let size : c.size_by-size.result ≡ size_of (form_at k) = c.size_by-size.ensures ∙ ap (λ (j : ℕ). size_of (form_at j)) (sym by_pattern) in
    let got : c.new.result ≡ v = c.new.ensures ∙ make3 k a b e ∙ ap (formed k) (c.read-f.ensures ∙ ap (λ (t : Shape). fields_by t s) shape)
    ∙ by_shape k c.lookup-form.ensures.1 s in
    ap accepted got
    ∙ found_parts s v (parts_read k c.lookup-form.ensures.1 s (λ i. (c.type_inv.bytes i).fits))
    (found s some k by_pattern (rw size at c.if-bytes-size.false) v refl (made_of v) refl)
