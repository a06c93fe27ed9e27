-- A byte is masked by a traced position under whose instruction it lies.
-- Assumes nothing.
use Prim.Native.Nat.{ℕ, ◌+◌, ◌<◌, ◌≤◌}
use native.Mathlib.Omega.{arith}
use native.Mathlib.Nat.{zero-add}
use mathlib.Core.Bool.{Bool, true, false}
use mathlib.Core.List.{List}
use mathlib.Core.Path.{◌≡◌, refl, sym, ap, subst, ◌∙◌}
use mathlib.Core.Logic.{◌↔◌}
use lib.Dec.{ltb, leb}
use lib.ListN.{length, get_or}
use borrow.Author.Tests.{lt-ltb, ltb-true, le-leb, leb-true}
use Rattle.instruction.proofs.Ands.{both, first_part, second_part}
use Rattle.targets.specs.At.{size_here}
use Rattle.reach.specs.Mark.{IsTraced, traced_mark}
use Rattle.reach.proofs.Mark.{traced_test}
use Rattle.views.specs.Positions.{bit, traced_at}
use Rattle.views.specs.Mask.{under, covers, masked, mask_of}
use Rattle.views.proofs.TracedAt.{traced_inside}
use Rattle.views.proofs.Ups.{up_at}
use Rattle.views_laws.proofs.Somes.{which, passing}

pub record Under (image m : List ℕ) (b : ℕ) : Type 0 where
  pub position : ℕ
  pub inside : position < length image
  pub is_traced : IsTraced (get_or m position 0)
  pub from : position ≤ b
  pub to : b < position + size_here image position

module _ (image m : List ℕ) (b : ℕ) where
  pub masked_under : masked image m b ≡ true → Under image m b
  unfolding masked
  masked_under e =
      let P = which (covers image m b) (length image) 0 e in
      let q = P.at in
      let t = first_part (traced_at image m q) (under image b q) P.passed in
      let u = second_part (traced_at image m q) (under image b q) P.passed in
      record {
        position = q;
        inside = traced_inside image m q t;
        is_traced = (traced_test (get_or m q 0)).0 (second_part (ltb q (length image)) _ t);
        from = leb-true q b (first_part (leb q b) _ u);
        to = ltb-true b (q + size_here image q) (second_part (leb q b) _ u);
      }

  pub under_masked : Under image m b → masked image m b ≡ true
  unfolding masked
  under_masked U =
      let q = U.position in
      let h = U.inside in
      passing (covers image m b) (length image) 0 q (omega arith) (subst (λ (k : ℕ). q < k) (sym (zero-add (length image))) h)
      (both (traced_at image m q) (under image b q)
      (both (ltb q (length image)) (traced_mark (get_or m q 0)) (lt-ltb q (length image) h) ((traced_test (get_or m q 0)).1 U.is_traced))
      (both (leb q b) (ltb b (q + size_here image q)) (le-leb q b U.from) (lt-ltb b (q + size_here image q) U.to)))

  pub mask_at : b < length image → get_or (mask_of image m) b 0 ≡ bit (masked image m b)
  unfolding mask_of
  mask_at h = up_at (λ (k : ℕ). bit (masked image m k)) (length image) 0 b h ∙ ap (λ (k : ℕ). bit (masked image m k)) (zero-add b)

  -- the mask has 1 there exactly then
  pub mask_one : b < length image → (get_or (mask_of image m) b 0 ≡ 1) ↔ (masked image m b ≡ true)
  mask_one h = (λ e. by (masked image m b) (sym (mask_at h) ∙ e), λ e. mask_at h ∙ ap bit e)
    where
      by : (t : Bool) → bit t ≡ 1 → t ≡ true
      by true e = refl
      by false e = absurd (let z : ◌≡◌ {A = ℕ} 0 1 = e in omega arith)
