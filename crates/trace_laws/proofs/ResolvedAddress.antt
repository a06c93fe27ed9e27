-- What resolve makes of an instruction names the address that was written in it.
-- Assumes nothing.
use mathlib.Core.Path.{◌≡◌, ap, sym, ◌∙◌}
use mathlib.Core.List.{append-nil}
use Prim.Native.Nat.{ℕ, ◌≤◌}
use native.Mathlib.Omega.{arith}
use borrow.Author.Tests.{ltb-false}
use Rattle.instruction.specs.Answer.{accepted}
use Rattle.instruction.specs.Kinds.{kind_at}
use Rattle.instruction.specs.declared.kind.Kind.{Kind}
use Rattle.instruction.proofs.Judging.{accepts}
use Rattle.instruction.specs.Encode.{form_in}
use Rattle.instruction.specs.Forms.{size_of}
use Rattle.instruction.specs.Parts.{parts_of}
use Rattle.instruction.specs.Resolve.{resolve_answer}
use Rattle.instruction.specs.ResolveOperand.{operand_refusals, field_of}
use Rattle.instruction.specs.declared.instr.Instr.{Instr}
use Rattle.instruction.specs.declared.instr.Parts.{Parts}
use Rattle.instruction.proofs.Known.{known}
use Rattle.instruction.proofs.Shapes.{size_range}
use Rattle.instruction_laws.specs.PartsMade.{used, used_in}
use Rattle.instruction.proofs.Accepting.{passed}
use Rattle.instruction_laws.proofs.PartsMade.{parted}
use Rattle.instruction.specs.declared.mode.Mode.{Mode}
use Rattle.trace_laws.specs.ClaimsTargets.{last_in}
use Rattle.targets.specs.Targets.{address_of, address_in}
use Rattle.trace_laws.proofs.AddressBack.{address_back}

-- an instruction has no operand beside those of its form
pub whole : (i : Instr) → used_in (form_in i).shape (parts_of i) ≡ parts_of i
whole i = sym (parted (parts_of i) (known i).small) ∙ ap parts_of (known i).made

module _ (mode : Mode) (i : Instr) (base : ℕ) (j : Instr) (room : size_of (form_in i) ≤ base) (e : resolve_answer mode i base ≡ accepted j) where
  abbrev v : Parts
  v = parts_of i

  abbrev k : ℕ → Kind
  k n = kind_at (form_in i).shape n

  abbrev fields : Parts
  fields = record { form = v.form; a = field_of mode base (k 0) v.a; b = field_of mode base (k 1) v.b; c = field_of mode base (k 2) v.c }

  low : 1 ≤ base
  low = let h = (size_range v.form (known i).small).0 in omega arith

  pub high : base ≤ 65536
  unfolding resolve_answer
  high = ltb-false 65536 base (passed _ _ _ e).0

  parts : parts_of j ≡ used_in (form_in i).shape fields
  unfolding resolve_answer
  parts = rw (← accepts _ _ j e) (parted fields (known i).small)

  pub address : address_in mode base j ≡ last_in i
  unfolding resolve_answer address_in last_in
  address =
      let one = address_back mode base 1 v.a _ _ low high (k 0) (passed _ _ _ e).1 in
      let two = address_back mode base 2 v.b _ _ low high (k 1) one.1 in
      let three = address_back mode base 3 v.c _ _ low high (k 2) (rw (← append-nil (operand_refusals mode base 3 (k 2) v.c)) at two.1) in
      let a : address_of mode base (k 0) (used (k 0) (field_of mode base (k 0) v.a)) ≡ v.a = one.0 ∙ ap (λ (u : Parts). u.a) (whole i) in
      let b : address_of mode base (k 1) (used (k 1) (field_of mode base (k 1) v.b)) ≡ v.b = two.0 ∙ ap (λ (u : Parts). u.b) (whole i) in
      let c : address_of mode base (k 2) (used (k 2) (field_of mode base (k 2) v.c)) ≡ v.c = three.0 ∙ ap (λ (u : Parts). u.c) (whole i) in
      rw (parts, a, b, c)
