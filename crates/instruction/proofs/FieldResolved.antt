-- The one answer for three operands, from the answers for each.
-- Assumes nothing.
use Rattle.std.proofs.Common.{◌≡◌, ℕ, ◌<◌, ◌≤◌, List, [], ◌∷◌, ◌++◌, ℤ, pos, sym, ap, ◌∙◌, subst, append-nil, le-ltb, lt-ltb}
use Rattle.instruction.specs.Answer.{accepted, refused, Refusal, judge}
use Rattle.instruction.specs.declared.kind.Kinds.{Kinds}
use Rattle.instruction.proofs.Judging.{pass, stop, done, first_of, past_all, accepts}
use Rattle.instruction.specs.ResolveOperand.{operand_refusals, field_of, why_of, fields_answer}
use Rattle.instruction.specs.declared.layout.Fields.{Fields}
use Rattle.instruction.specs.declared.resolve_operand.OperandError.{OperandError}
use Rattle.instruction.specs.declared.resolve_operand.OperandError.TheVariants.{Unfit, NoAddress, TooFar, OtherPage}
use Rattle.instruction.proofs.FieldReading.{make, make3}
use Rattle.instruction.proofs.Resolving.{answer_of}
use Rattle.instruction.specs.declared.mode.Mode.{Mode}

-- why an operand is refused is why the whole is, whatever the whole would have answered
carried : {A B : Type 0} (rs qs : List Refusal) (a : A) (b : B) (w : OperandError) → why_of w ≡ judge rs a → why_of w ≡ judge (rs ++ qs) b
carried rs qs a b (Unfit m) e = sym (first_of qs a b rs _ _ (sym e))
carried rs qs a b (NoAddress z) e = sym (first_of qs a b rs _ _ (sym e))
carried rs qs a b (TooFar z) e = sym (first_of qs a b rs _ _ (sym e))
carried rs qs a b (OtherPage t) e = sym (first_of qs a b rs _ _ (sym e))

-- where an operand is accepted, the rest decides
goes_on_lem : {A B : Type 0} (rs qs : List Refusal) (a x : A) (b : B) → accepted x ≡ judge rs a → judge (rs ++ qs) b ≡ judge qs b
goes_on_lem rs qs a x b e =
    let f : a ≡ x = accepts rs a x (sym e) in past_all qs a b rs (sym e ∙ ap accepted (sym f))

-- the same where nothing comes after
pub last_no : {A B : Type 0} (rs : List Refusal) (a : A) (b : B) (w : OperandError) → why_of w ≡ judge rs a → why_of w ≡ judge rs b
last_no rs a b w e = subst (λ (l : List Refusal). why_of w ≡ judge l b) (append-nil rs) (carried rs [] a b w e)

pub last_yes : {A B : Type 0} (rs : List Refusal) (a x : A) (b : B) → accepted x ≡ judge rs a → judge rs b ≡ accepted b
last_yes rs a x b e = subst (λ (l : List Refusal). judge l b ≡ accepted b) (append-nil rs) (goes_on_lem rs [] a x b e ∙ done b)

module _ (mode : Mode) (k : Kinds) (a b c : ℤ) (base : ℕ) where
  pub far : 65536 < base → refused 14 (pos base ∷ []) ≡ fields_answer mode k a b c base
  unfolding fields_answer
  far h = sym (stop _ _ _ (lt-ltb 65536 base h))

  module _ (near : base ≤ 65536) where
    pub no1 : (w : OperandError) → why_of w ≡ answer_of mode base 1 k.a a → why_of w ≡ fields_answer mode k a b c base
    unfolding fields_answer
    no1 w e = carried (operand_refusals mode base 1 k.a a) _ (field_of mode base k.a a) _ w e ∙ sym (pass _ _ _ (le-ltb 65536 base near))

    module _ (x : ℤ) (ex : accepted x ≡ answer_of mode base 1 k.a a) where
      pub no2 : (w : OperandError) → why_of w ≡ answer_of mode base 2 k.b b → why_of w ≡ fields_answer mode k a b c base
      unfolding fields_answer
      no2 w e =
          carried (operand_refusals mode base 2 k.b b) _ (field_of mode base k.b b) _ w e
          ∙ sym (pass _ _ _ (le-ltb 65536 base near) ∙ goes_on_lem (operand_refusals mode base 1 k.a a) _ (field_of mode base k.a a) x _ ex)

      module _ (y : ℤ) (ey : accepted y ≡ answer_of mode base 2 k.b b) where
        -- the first two operands are accepted: the third decides
        third : (m : Fields) → judge (operand_refusals mode base 1 k.a a ++ (operand_refusals mode base 2 k.b b ++ operand_refusals mode base 3 k.c c)) m
            ≡ judge (operand_refusals mode base 3 k.c c) m
        third m =
            goes_on_lem (operand_refusals mode base 1 k.a a) _ (field_of mode base k.a a) x m ex
            ∙ goes_on_lem (operand_refusals mode base 2 k.b b) _ (field_of mode base k.b b) y m ey

        pub no3 : (w : OperandError) → why_of w ≡ answer_of mode base 3 k.c c → why_of w ≡ fields_answer mode k a b c base
        unfolding fields_answer
        no3 w e =
            last_no (operand_refusals mode base 3 k.c c) (field_of mode base k.c c) _ w e
            ∙ sym (pass _ _ _ (le-ltb 65536 base near) ∙ third _)

        pub yes : (z : ℤ) → accepted z ≡ answer_of mode base 3 k.c c → accepted (make x y z) ≡ fields_answer mode k a b c base
        unfolding fields_answer
        yes z ez =
            let fx : field_of mode base k.a a ≡ x = accepts (operand_refusals mode base 1 k.a a) _ x (sym ex) in
            let fy : field_of mode base k.b b ≡ y = accepts (operand_refusals mode base 2 k.b b) _ y (sym ey) in
            let fz : field_of mode base k.c c ≡ z = accepts (operand_refusals mode base 3 k.c c) _ z (sym ez) in
            sym
            (pass _ _ _ (le-ltb 65536 base near) ∙ third _
            ∙ last_yes (operand_refusals mode base 3 k.c c) (field_of mode base k.c c) z _ ez ∙ ap accepted (make3 fx fy fz))
