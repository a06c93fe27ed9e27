-- The data run by the marks: where no instruction so far covers p, the bytes before the next traced position are those before the next
-- masked byte.
-- Assumes nothing.
use mathlib.Core.Path.{◌≡◌, refl, sym, ap, subst, ◌∙◌}
use mathlib.Core.Bool.{Bool, true, false, not, cond, ◌&&◌}
use mathlib.Core.List.{List, []}
use Prim.Native.Nat.{ℕ, zero, suc, ◌+◌, ◌-◌, ◌<◌, ◌≤◌}
use native.Mathlib.Numerals.{add-one}
use native.Mathlib.Omega.{arith}
use borrow.Author.Tests.{le-ltb, lt-ltb, ltb-true, ltb-false, not-true}
use lib.Dec.{eqb, ltb}
use lib.ListN.{length, get_or, take, drop, length-drop, drop_of_length-le}
use lib.Seq.{take-nil, length-take-le}
use Rattle.instruction.proofs.Ands.{first_part, second_part}
use Rattle.targets.specs.At.{size_here}
use Rattle.targets.proofs.Within.{Small, size_short}
use Rattle.views.specs.Positions.{up_from, bit, traced_at}
use Rattle.views.specs.DataRun.{leading, is_data, run_length, data_run}
use Rattle.views.specs.Mask.{mask_of, end_with}
use Rattle.views.specs.Unmasked.{is_untraced, untraced_length, unmasked_run}
use Rattle.views.proofs.DataRuns.{by_mask, leading_on, leading_in}
use Rattle.views.proofs.Masking.{Masks, masks_here, masks_next, mask_length}

module _ (image m : List ℕ) (b : ℕ) where
  pub no_byte : length image ≤ b → false ≡ is_untraced image m b
  no_byte h = rw (le-ltb b (length image) h)

  pub by_trace : b < length image → (t : Bool) → t ≡ traced_at image m b → not t ≡ is_untraced image m b
  by_trace h t e = ap not e ∙ sym (ap (λ (u : Bool). u && not (traced_at image m b)) (lt-ltb b (length image) h))

  untraced : is_untraced image m b ≡ true → traced_at image m b ≡ false
  untraced e = not-true (traced_at image m b) (second_part (ltb b (length image)) _ e)

  pub untraced_inside : is_untraced image m b ≡ true → b < length image
  untraced_inside e = ltb-true b (length image) (first_part (ltb b (length image)) _ e)

module _ (image m : List ℕ) (p e : ℕ) where
  -- a traced position is covered
  pub traced_ends : Small image → traced_at image m p ≡ true → p < end_with image m p e
  traced_ends B t = by (ltb e (p + size_here image p)) refl (size_short image p B).0
    where
      by : (u : Bool) → ltb e (p + size_here image p) ≡ u → 0 < size_here image p → p < end_with image m p e
      by true f h = rw (t, f) (omega arith)
      by false f h = rw (t, f) (omega (arith, ltb-false e (p + size_here image p) f))

  -- so what ends up to p ended there before
  past_ends : end_with image m p e ≤ p → Small image → (traced_at image m p ≡ false) × (end_with image m p e ≡ e)
  past_ends h B = by (traced_at image m p) refl
    where
      by : (t : Bool) → traced_at image m p ≡ t → (traced_at image m p ≡ false) × (end_with image m p e ≡ e)
      by true f = absurd (omega (arith, h, traced_ends B f))
      by false f = (f, ap (λ (t : Bool). cond (t && ltb e (p + size_here image p)) (p + size_here image p) e) f)

module _ (image m : List ℕ) (p e : ℕ) where
  pub run_covered : p < e → [] ≡ unmasked_run image m p e
  unfolding unmasked_run
  run_covered h = rw (lt-ltb p e h)

  pub run_past : e ≤ p → length image ≤ p → [] ≡ unmasked_run image m p e
  unfolding unmasked_run
  run_past h k = rw (le-ltb p e h, drop_of_length-le image k, take-nil)

  pub run_in : e ≤ p → (k : ℕ) → k ≡ untraced_length image m p → take ((p + k) - p) (drop p image) ≡ unmasked_run image m p e
  unfolding unmasked_run
  run_in h k f = let z : (p + k) - p ≡ k = omega arith in rw (le-ltb p e h, z, f)

module _ (image m : List ℕ) (B : Small image) where
  abbrev n : ℕ
  n = length image

  -- what the mask says at p, where the code that begins before p ends at e
  mask_at : (p e : ℕ) → p < n → Masks image m p e → (b : Bool) → ltb p (end_with image m p e) ≡ b → get_or (mask_of image m) p 0 ≡ bit b
  mask_at p e h M b f = sym (masks_here image m p e h M) ∙ ap bit f

  data_at_lem : (p e : ℕ) → p < n → Masks image m p e → (b : Bool) → ltb p (end_with image m p e) ≡ b → is_data image (mask_of image m) p ≡ eqb (bit b) 0
  data_at_lem p e h M b f =
      sym (by_mask image (mask_of image m) p h (omega (arith, h, mask_length image m))) ∙ ap (λ (v : ℕ). eqb v 0) (mask_at p e h M b f)

  -- a traced position is masked
  pub traced_masked : (p e : ℕ) → p < n → Masks image m p e → traced_at image m p ≡ true → get_or (mask_of image m) p 0 ≡ 1
  traced_masked p e h M t = mask_at p e h M true (lt-ltb p (end_with image m p e) (traced_ends image m p e B t))

  -- both runs end at the same position
  same_ends : (k p e : ℕ) → Masks image m p e → e ≤ p → leading (is_untraced image m) (up_from k p) ≡ leading (is_data image (mask_of image m)) (up_from k p)
  unfolding leading up_from
  same_ends zero p e M h = refl
  same_ends (suc k) p e M h = by (ltb p n) refl (same_ends k (suc p) e)
    where
      rest : (ℕ → Bool) → ℕ
      rest f = leading f (up_from k (suc p))

      D : ℕ → Bool
      D = is_data image (mask_of image m)

      U : ℕ → Bool
      U = is_untraced image m

      none : U p ≡ false → D p ≡ false → cond (U p) (suc (rest U)) 0 ≡ cond (D p) (suc (rest D)) 0
      none e f = rw (e, f)

      traced : p < n → (t : Bool) → traced_at image m p ≡ t → (Masks image m (suc p) e → e ≤ suc p → rest U ≡ rest D)
          → cond (U p) (suc (rest U)) 0 ≡ cond (D p) (suc (rest D)) 0
      traced i true f again =
          none (sym (by_trace image m p i true (sym f))) (data_at_lem p e i M true (lt-ltb p (end_with image m p e) (traced_ends image m p e B f)))
      traced i false f again =
          let g : end_with image m p e ≡ e = ap (λ (t : Bool). cond (t && ltb e (p + size_here image p)) (p + size_here image p) e) f in
          let d : D p ≡ true = data_at_lem p e i M false (ap (ltb p) g ∙ le-ltb p e h) in
          let u : U p ≡ true = sym (by_trace image m p i false (sym f)) in
          let s : Masks image m (suc p) e = subst (λ (j : ℕ). Masks image m j e) (add-one p) (subst (Masks image m (p + 1)) g (masks_next image m p e i M)) in
          rw (u, d) (ap suc (again s (omega arith)))

      by : (b : Bool) → ltb p n ≡ b → (Masks image m (suc p) e → e ≤ suc p → rest U ≡ rest D) → cond (U p) (suc (rest U)) 0 ≡ cond (D p) (suc (rest D)) 0
      by true f again = traced (ltb-true p n f) (traced_at image m p) refl again
      by false f again = none (sym (no_byte image m p (ltb-false p n f))) (rw f)

  -- the run by the marks is the data run, or none where p is masked
  pub run_here : (p e : ℕ) → p < n → Masks image m p e
      → unmasked_run image m p (end_with image m p e) ≡ cond (eqb (get_or (mask_of image m) p 0) 0) (data_run image (mask_of image m) p) []
  unfolding unmasked_run untraced_length data_run run_length
  run_here p e h M = by (ltb p (end_with image m p e)) refl
    where
      by : (b : Bool) → ltb p (end_with image m p e) ≡ b
          → unmasked_run image m p (end_with image m p e) ≡ cond (eqb (get_or (mask_of image m) p 0) 0) (data_run image (mask_of image m) p) []
      by true f = rw (mask_at p e h M true f, f)
      by false f =
          let x = ltb-false p (end_with image m p e) f in
          let y = past_ends image m p e x B in
          let z : e ≤ p = omega (arith, x, y.1) in
          rw (mask_at p e h M false f, f) (ap (λ (k : ℕ). take k (drop p image)) (same_ends 16 p e M z))

  -- past an untraced position the code ends where it did
  masks_free : (p e : ℕ) → p < n → traced_at image m p ≡ false → Masks image m p e → Masks image m (p + 1) e
  masks_free p e h f M =
      subst (Masks image m (p + 1)) (ap (λ (t : Bool). cond (t && ltb e (p + size_here image p)) (p + size_here image p) e) f) (masks_next image m p e h M)

  masks_on : (k p e : ℕ) → Masks image m p e → Masks image m (p + leading (is_untraced image m) (up_from k p)) e
  unfolding leading up_from
  masks_on zero p e M = subst (λ (q : ℕ). Masks image m q e) (let z : p ≡ p + 0 = omega arith in z) M
  masks_on (suc k) p e M = by (is_untraced image m p) refl (masks_on k (suc p) e)
    where
      rest : ℕ
      rest = leading (is_untraced image m) (up_from k (suc p))

      by : (b : Bool) → is_untraced image m p ≡ b → (Masks image m (suc p) e → Masks image m (suc p + rest) e) → Masks image m (p + cond b (suc rest) 0) e
      by true f again =
          let i = untraced_inside image m p f in
          let t : traced_at image m p ≡ false = untraced image m p f in
          subst (λ (q : ℕ). Masks image m q e) (let z : suc p + rest ≡ p + suc rest = omega arith in z)
          (again (subst (λ (q : ℕ). Masks image m q e) (add-one p) (masks_free p e i t M)))
      by false f again = subst (λ (q : ℕ). Masks image m q e) (let z : p ≡ p + 0 = omega arith in z) M

  -- past the run at p, or past p alone where there is none
  pub masks_over : (p e : ℕ) → p < n → Masks image m p e
      → Masks image m (p + (1 + (length (unmasked_run image m p (end_with image m p e)) - 1))) (end_with image m p e)
  unfolding unmasked_run untraced_length
  masks_over p e h M = by (ltb p (end_with image m p e)) refl
    where
      over : ℕ → Type 0
      over k = Masks image m (p + (1 + (k - 1))) (end_with image m p e)

      by : (b : Bool) → ltb p (end_with image m p e) ≡ b → over (length (unmasked_run image m p (end_with image m p e)))
      by true f = rw f (masks_next image m p e h M)
      by false f =
          let x = ltb-false p (end_with image m p e) f in
          let y = past_ends image m p e x B in
          let U = is_untraced image m in
          let u : U p ≡ true = sym (by_trace image m p h false (sym y.0)) in
          let k : ℕ = leading U (up_from 16 p) in
          let s : 1 ≤ k = omega (arith, leading_on U 16 p (omega arith) u) in
          let i : p + k ≤ n = leading_in U n (λ b g. untraced_inside image m b g) 16 p (omega (arith, h)) in
          let l : length (take k (drop p image)) ≡ k = length-take-le k (drop p image) (omega (arith, length-drop p image)) in
          let z : p + k ≡ p + (1 + (k - 1)) = omega arith in
          rw (f, l) (subst (Masks image m (p + (1 + (k - 1)))) (sym y.1) (subst (λ (q : ℕ). Masks image m q e) z (masks_on 16 p e M)))
