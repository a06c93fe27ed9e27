-- In an image with no B8 0D 21 in succession no position is under the exception.
-- Assumes nothing.
use Prim.Native.Nat.{ℕ, ◌+◌, ◌-◌, ◌<◌, ◌≤◌}
use native.Mathlib.Omega.{arith}
use mathlib.Core.Path.{◌≡◌, refl, sym, ap, ◌∙◌}
use mathlib.Core.Bool.{Bool, true, false}
use mathlib.Core.List.{List}
use lib.Dec.{eqb, leb, ltb}
use lib.ListN.{length, get_or, get_or-eq_default}
use borrow.Author.Tests.{eqb-true, ltb-true, ltb-false}
use Rattle.instruction.specs.Bytes.{Bytes}
use Rattle.instruction.specs.Forms.{form_named}
use Rattle.reach.specs.ClaimsOrder.{Plain}
use Rattle.trace_laws.specs.ClaimsImages.{Clean}
use Rattle.marks.specs.Tracer.{tracer_of, exempt_here}
use Rattle.targets.specs.At.{form_here, flash_here}
use Rattle.instruction.proofs.Ands.{first_part, second_part}
use Rattle.instruction.specs.declared.mode.Mode.{Mode}
use Rattle.marks.proofs.Jmpf.{jmpf_by_byte, two_before}

module _ (image : List ℕ) (B : Bytes image) (C : Clean image) (p : ℕ) where
  -- the three bytes
  found : flash_here image p ≡ true → (get_or image p 0 ≡ 0x21) × (get_or image (p - 2) 0 ≡ 0xB8) × (get_or image (p - 1) 0 ≡ 0x0D)
  unfolding flash_here
  found e =
      let r = second_part (leb 2 p) _ e in
      let j = first_part (eqb (form_here image p) (form_named "Jmpf")) _ r in
      let s = second_part (eqb (form_here image p) (form_named "Jmpf")) _ r in (
        eqb-true (get_or image p 0) 0x21 (sym (jmpf_by_byte (get_or image p 0) (B p)) ∙ j),
        eqb-true (get_or image (p - 2) 0) 0xB8 (first_part _ _ s),
        eqb-true (get_or image (p - 1) 0) 0x0D (second_part (eqb (get_or image (p - 2) 0) 0xB8) _ s),
      )

  inside : get_or image p 0 ≡ 0x21 → p < length image
  inside e = by (ltb p (length image)) refl
    where
      by : (t : Bool) → ltb p (length image) ≡ t → p < length image
      by true f = ltb-true p (length image) f
      by false f = absurd (let z : get_or image p 0 ≡ 0 = get_or-eq_default image 0 (ltb-false p (length image) f) in omega arith)

  never_here : flash_here image p ≡ true → ⊥
  never_here e =
      let f = found e in
      let h : 2 ≤ p = two_before image p e in
      let k : p < length image = inside f.0 in
      let a : p - 2 + 1 ≡ p - 1 = omega arith in
      let b : p - 2 + 2 ≡ p = omega arith in
      C (p - 2) (omega arith) f.1 (ap (λ (q : ℕ). get_or image q 0) a ∙ f.2) (ap (λ (q : ℕ). get_or image q 0) b ∙ f.0)

  pub unflashed : flash_here image p ≡ false
  unflashed = by (flash_here image p) refl
    where
      by : (t : Bool) → flash_here image p ≡ t → flash_here image p ≡ false
      by true e = absurd (never_here e)
      by false e = e

pub plain : (mode : Mode) (image : List ℕ) → Bytes image → Clean image → Plain (tracer_of mode image)
unfolding exempt_here
plain mode image B C m p = rw (unflashed image B C p)
