-- A masked position is traced, or lies under an instruction that is traced before it.
-- Assumes nothing.
use mathlib.Core.Path.{◌≡◌, refl, sym, ap, ◌∙◌}
use mathlib.Core.Bool.{Bool, true, false}
use mathlib.Core.List.{List}
use Prim.Native.Nat.{ℕ, ◌+◌, ◌<◌, ◌≤◌}
use native.Mathlib.Nat.{zero-add}
use native.Mathlib.Omega.{arith}
use lib.Dec.{eqb, leb, ltb}
use lib.ListN.{length, get_or}
use borrow.Author.Tests.{leb-true, ltb-true}
use Rattle.instruction.proofs.Sign.{never}
use Rattle.targets.specs.At.{size_here}
use Rattle.instruction.proofs.Ands.{first_part, second_part}
use Rattle.views.specs.Positions.{bit, traced_at}
use Rattle.views.proofs.Ups.{up_at}
use Rattle.views.specs.Mask.{under, covers, masked, mask_of}
use Rattle.views_laws.proofs.Somes.{which}

-- a traced position before p whose instruction has p for a byte
pub record Before (image m : List ℕ) (p : ℕ) : Type 0 where
  pub at : ℕ
  pub is_traced : traced_at image m at ≡ true
  pub less : at < p
  pub ends : p < at + size_here image at

module _ (image m : List ℕ) (p : ℕ) where
  mask_at : p < length image → get_or (mask_of image m) p 0 ≡ bit (masked image m p)
  unfolding mask_of
  mask_at h = up_at (λ (b : ℕ). bit (masked image m b)) (length image) 0 p h ∙ ap (λ (b : ℕ). bit (masked image m b)) (zero-add p)

  pub covered : p < length image → eqb (get_or (mask_of image m) p 0) 0 ≡ false → traced_at image m p ≡ false → Before image m p
  unfolding masked
  covered h e u =
      let c : masked image m p ≡ true = by (masked image m p) (rw (mask_at h) at e) in
      let W = which (covers image m p) (length image) 0 c in
      let a : ℕ = W.at in
      let t : traced_at image m a ≡ true = first_part (traced_at image m a) (under image p a) W.passed in
      let v : under image p a ≡ true = second_part (traced_at image m a) (under image p a) W.passed in
      let i : a ≤ p = leb-true a p (first_part (leb a p) (ltb p (a + size_here image a)) v) in
      let d : a ≡ p → ⊥ = λ g. never (sym t ∙ ap (traced_at image m) g ∙ u) in
      record {
        at = a;
        is_traced = t;
        less = omega arith;
        ends = ltb-true p (a + size_here image a) (second_part (leb a p) (ltb p (a + size_here image a)) v);
      }
    where
      by : (t : Bool) → eqb (bit t) 0 ≡ false → t ≡ true
      by true f = refl
      by false f = absurd (never f)
