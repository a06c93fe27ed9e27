-- The one answer of resolve, from the answer for its operands.
-- Assumes nothing.
use Rattle.std.proofs.Common.{◌≡◌, ℕ, List, [], ℤ, sym, ap, ◌∙◌, subst, append-nil}
use Rattle.instruction.specs.Answer.{accepted, refused, Refusal, judge}
use Rattle.instruction.specs.Kinds.{three_of}
use Rattle.instruction.specs.declared.kind.Kinds.{Kinds}
use Rattle.instruction.proofs.Judging.{first_of, accepts}
use Rattle.instruction.specs.ResolveOperand.{resolve_refused, refusals, fields_answer}
use Rattle.instruction.specs.declared.layout.Fields.{Fields}
use Rattle.instruction.specs.declared.resolve_operand.ResolveError.{ResolveError}
use Rattle.instruction.specs.declared.resolve_operand.ResolveError.TheVariants.{FarBase, Operand}
use Rattle.instruction.proofs.FieldResolved.{last_no, last_yes}
use Rattle.instruction.specs.Encode.{form_in}
use Rattle.instruction.specs.Parts.{parts_of, made_of}
use Rattle.instruction.specs.Resolve.{resolve_answer}
use Rattle.instruction.specs.declared.instr.Instr.{Instr}
use Rattle.instruction.specs.declared.instr.Parts.{Parts}
use Rattle.instruction.proofs.Reading.{formed}
use Rattle.instruction.specs.declared.mode.Mode.{Mode}

-- what is refused is refused whatever would be answered else
refused_too : {A B : Type 0} (rs : List Refusal) (a : A) (b : B) (n : ℕ) (vs : List ℤ) → refused n vs ≡ judge rs a → refused n vs ≡ judge rs b
refused_too rs a b n vs e = subst (λ (l : List Refusal). refused n vs ≡ judge l b) (append-nil rs) (sym (first_of [] a b rs n vs (sym e)))

module _ (mode : Mode) (i : Instr) (base : ℕ) where
  abbrev k : Kinds
  k = three_of (form_in i).shape

  abbrev v : Parts
  v = parts_of i

  abbrev rs : List Refusal
  rs = refusals mode k v.a v.b v.c base

  pub no : (e : ResolveError) → resolve_refused e ≡ fields_answer mode k v.a v.b v.c base → resolve_refused e ≡ resolve_answer mode i base
  unfolding fields_answer resolve_answer
  no (FarBase b) e = refused_too rs _ _ 14 _ e
  no (Operand w) e = last_no rs _ _ w e

  pub yes : (f : Fields) → accepted f ≡ fields_answer mode k v.a v.b v.c base → (r : Instr) → r ≡ made_of (formed v.form f)
      → accepted r ≡ resolve_answer mode i base
  unfolding fields_answer resolve_answer
  yes f e r m = sym (last_yes rs _ f _ e ∙ ap accepted (ap (λ (g : Fields). made_of (formed v.form g)) (accepts rs _ f (sym e)) ∙ sym m))
