-- Lines taken out of the counts again, the last of them first.
-- Assumes nothing.
use Prim.Native.Nat.{ℕ, suc, ◌-◌, ◌*◌, ◌<◌, ◌≤◌}
use native.Mathlib.Omega.{arith}
use mathlib.Core.Path.{◌≡◌, sym, ap, subst, ◌∙◌}
use mathlib.Core.List.{List}
use lib.ListN.{length, get_or, take, drop}
use Rattle.replay.specs.Line.{position_of, position_at}
use Rattle.replay.specs.Back.{less, taken_back, Counted}

module _ (text : List ℕ) (k : ℕ) (h : 0 < k) where
  abbrev p : ℕ
  p = position_at text (k - 1)

  one_less : k ≡ suc (k - 1)
  one_less = omega arith

  pub back_here : (c : List ℕ) → Counted text k c → (p < length c) × (0 < get_or c p 0) × Counted text (k - 1) (less c p)
  back_here c w = subst (λ (j : ℕ). Counted text j c) one_less w

  pub back_next : (c t : List ℕ) → taken_back text k c ≡ t → taken_back text (k - 1) (less c p) ≡ t
  unfolding taken_back
  back_next c t e = sym (ap (λ (j : ℕ). taken_back text j c) one_less) ∙ e

  pub back_told : (q : ℕ) (line : List ℕ) → line ≡ take 7 (drop ((k - 1) * 7) text) → q ≡ position_of line → q ≡ p
  back_told q line e f =
      f ∙ ap position_of e ∙ ap (λ (j : ℕ). position_of (take 7 (drop j text))) (let g : (k - 1) * 7 ≡ 7 * (k - 1) = omega arith in g)

pub back_end : (text c t : List ℕ) (k : ℕ) → k ≤ 0 → taken_back text k c ≡ t → c ≡ t
unfolding taken_back
back_end text c t k h e = sym (ap (λ (j : ℕ). taken_back text j c) (let g : k ≡ 0 = omega arith in g)) ∙ e
