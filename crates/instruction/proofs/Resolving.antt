-- The answers for one operand, from the tests of the code.
-- Assumes nothing.
use Rattle.std.proofs.Common.{◌≡◌, ℕ, suc, ◌+◌, ◌-◌, ◌%◌, ◌<◌, ◌≤◌, Bool, true, false, cond, not, ltb, [], ◌∷◌, ℤ, pos, negsuc, ◌+ℤ◌, ◌-ℤ◌, nat_abs, sym, refl, ap, ◌∙◌, arith, ltb-false, ltb-true, le-ltb, lt-ltb, eq-eqb, ne_eqb}
use lib.IntN.{sub_ℕ}
use Rattle.instruction.specs.Answer.{Answer, accepted, refused, refuse, judge}
use Rattle.instruction.specs.Code.{code_of}
use Rattle.instruction.specs.Range.{outside, unfit}
use Rattle.instruction.specs.declared.answer.Misfit.{Misfit}
use Rattle.instruction.specs.ResolveOperand.{misfit_values, no_address, top, wrapped, nearest, difference, operand_refusals, field_of}
use Rattle.instruction.specs.declared.kind.Kind.{Kind}
use Rattle.instruction.specs.declared.kind.Kind.TheVariants.{Page, Far, Short, Long}
use Rattle.instruction.proofs.Judging.{pass, stop, done}
use Rattle.instruction.proofs.FieldSign.{diff}
use Rattle.instruction.proofs.Sign.{natural}
use Rattle.instruction.specs.declared.mode.Mode.{Mode}

-- an address is its own number
pub address_is : (z : ℤ) → no_address z ≡ false → code_of z ≡ nat_abs z
address_is z e = let v = natural 65535 z e in ap code_of v.is

pub wrapped_less : (z : ℤ) → wrapped z < 65536
wrapped_less (pos n) = omega arith
wrapped_less (negsuc n) = omega arith

-- what is told of an operand that does not fit
pub told : {A : Type 0} {m : Misfit} {n : ℕ} {z : ℤ} {r : Answer A} → m ≡ record { operand = n; value = z } → refused 7 (pos n ∷ z ∷ []) ≡ r
    → refused 7 (misfit_values m) ≡ r
told e f = cc

-- ---- an operand that is its own field

module _ (k : Kind) (n : ℕ) (z : ℤ) where
  abbrev plain : Answer ℤ
  plain = judge (refuse (unfit k z) 7 (pos n ∷ z ∷ []) ∷ []) z

  pub plain_no : unfit k z ≡ true → refused 7 (pos n ∷ z ∷ []) ≡ plain
  plain_no e = sym (stop _ _ _ e)

  pub plain_is : unfit k z ≡ false → accepted z ≡ plain
  plain_is e = sym (pass _ _ _ e ∙ done z)

-- ---- the address of Jmp and Call

abbrev pub answer_of : Mode → ℕ → ℕ → Kind → ℤ → Answer ℤ
answer_of mode base n k z = judge (operand_refusals mode base n k z) (field_of mode base k z)

-- an operand of sixteen bits holds the addresses
pub no_far : (z : ℤ) → unfit Far z ≡ no_address z
unfolding unfit
no_far z = refl

module _ (mode : Mode) (base n : ℕ) (z : ℤ) where
  pub page_no : no_address z ≡ true → refused 7 (pos n ∷ z ∷ []) ≡ answer_of mode base n Page z
  unfolding operand_refusals
  page_no e = sym (stop _ _ _ e)

  module _ (inside : no_address z ≡ false) where
    pub page_other : (top (nat_abs z) ≡ top base → ⊥) → refused 10 (pos (top base) ∷ pos (top (nat_abs z)) ∷ []) ≡ answer_of mode base n Page z
    unfolding operand_refusals
    page_other h = sym (pass _ _ _ inside ∙ stop _ _ _ (ap not (ne_eqb (top (nat_abs z)) (top base) h)))

    pub page_is : top (nat_abs z) ≡ top base → accepted (pos (nat_abs z % 4096)) ≡ answer_of mode base n Page z
    unfolding operand_refusals field_of
    page_is h = sym (pass _ _ _ inside ∙ pass _ _ _ (ap not (eq-eqb (top (nat_abs z)) (top base) h)) ∙ done _)

  -- ---- the address of a short branch

  pub short_no : no_address z ≡ true → refused 8 (z ∷ []) ≡ answer_of mode base n Short z
  unfolding operand_refusals
  short_no e = sym (stop _ _ _ e)

  module _ (inside : no_address z ≡ false) where
    pub short_far : outside (negsuc 127) (pos 127) (difference mode z base) ≡ true → refused 9 (difference mode z base ∷ []) ≡ answer_of mode base n Short z
    unfolding operand_refusals
    short_far h = sym (pass _ _ _ inside ∙ stop _ _ _ h)

    pub short_is : outside (negsuc 127) (pos 127) (difference mode z base) ≡ false → accepted (difference mode z base) ≡ answer_of mode base n Short z
    unfolding operand_refusals field_of
    short_is h = sym (pass _ _ _ inside ∙ pass _ _ _ h ∙ done _)

  -- ---- the address of Brf and Callr

  pub long_no : no_address z ≡ true → refused 8 (z ∷ []) ≡ answer_of mode base n Long z
  unfolding operand_refusals
  long_no e = sym (stop _ _ _ e)

  pub long_is : no_address z ≡ false → (r : ℕ) → r ≡ wrapped ((z -ℤ pos base) +ℤ pos 1) → accepted (pos r) ≡ answer_of mode base n Long z
  unfolding operand_refusals field_of
  long_is e r h = sym (pass _ _ _ e ∙ done _ ∙ ap (λ (m : ℕ). accepted (pos m)) (sym h))

-- a difference that wraps at sixteen bits
wraps_to : (n b r : ℕ) → n ≤ 65535 → b ≤ 65536 → r < 65536 → (r + b % 65536) % 65536 ≡ n → r ≡ wrapped (sub_ℕ n b)
wraps_to n b r hn hb hr e = by (ltb n b) refl
  where
    by : (t : Bool) → ltb n b ≡ t → r ≡ wrapped (cond t (negsuc (b - suc n)) (pos (n - b)))
    by true f = let k : n < b = ltb-true n b f in omega arith
    by false f = let k : b ≤ n = ltb-false n b f in omega arith

-- and one more
wraps : (n b r : ℕ) → n ≤ 65535 → b ≤ 65536 → r < 65536 → (r + b % 65536) % 65536 ≡ n → (r + 1) % 65536 ≡ wrapped (sub_ℕ n b +ℤ pos 1)
wraps n b r hn hb hr e = by (ltb n b) refl
  where
    up : (m : ℕ) → n < b → m ≡ suc (b - suc n) → (t : Bool) → ltb 1 m ≡ t → (r + 1) % 65536 ≡ wrapped (cond t (negsuc (m - suc 1)) (pos (1 - m)))
    up m h f true g = let k : 1 < m = ltb-true 1 m g in omega arith
    up m h f false g = let k : m ≤ 1 = ltb-false 1 m g in omega arith

    by : (t : Bool) → ltb n b ≡ t → (r + 1) % 65536 ≡ wrapped (cond t (negsuc (b - suc n)) (pos (n - b)) +ℤ pos 1)
    by true f = up (suc (b - suc n)) (ltb-true n b f) refl (ltb 1 (suc (b - suc n))) refl
    by false f = let k : b ≤ n = ltb-false n b f in omega arith

-- of an address, as the code has it
module _ (z : ℤ) (b r : ℕ) (inside : no_address z ≡ false) (high : b ≤ 65536) (low : r < 65536) (f : (r + b % 65536) % 65536 ≡ code_of z % 65536) where
  abbrev number : ℕ
  number = nat_abs z

  most : number ≤ 65535
  most = (natural 65535 z inside).most

  sum : (r + b % 65536) % 65536 ≡ number
  sum = let h = most in f ∙ ap (λ (m : ℕ). m % 65536) (address_is z inside) ∙ omega arith

  less : sub_ℕ number b ≡ z -ℤ pos b
  less = sym (diff number b) ∙ ap (λ (y : ℤ). y -ℤ pos b) (sym (natural 65535 z inside).is)

  pub wraps_is : (r + 1) % 65536 ≡ wrapped ((z -ℤ pos b) +ℤ pos 1)
  wraps_is = wraps number b r most high low sum ∙ ap (λ (y : ℤ). wrapped (y +ℤ pos 1)) less

-- the number nearest to 0 that is the same modulo 65,536
pub near_up : (z : ℤ) (r : ℕ) → r ≡ wrapped z → r < 32768 → pos r ≡ nearest z
near_up z r e h = rw (← e, lt-ltb r 32768 h)

pub near_down : (z : ℤ) (r : ℕ) → r ≡ wrapped z → 32768 ≤ r → pos r -ℤ pos 65536 ≡ nearest z
near_down z r e h = rw (← e, le-ltb r 32768 h)
