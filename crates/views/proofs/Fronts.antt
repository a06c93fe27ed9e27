-- A room filled from its front.
-- Assumes nothing.
use mathlib.Core.Path.{◌≡◌, refl, sym, ap, ◌∙◌}
use mathlib.Core.List.{List, [], ◌∷◌, ◌++◌}
use Prim.Native.Nat.{ℕ, zero, suc, ◌+◌, ◌<◌, ◌≤◌}
use native.Mathlib.Omega.{arith}
use native.Mathlib.Nat.{le_antisymm}
use lib.ListN.{length, get_or, set, take, drop, replicate}
use lib.Seq.{length-take-le, take_all, take-suc, drop-cons, append_snoc, set_at}

-- the front of zeros
pub take_replicate : (n m : ℕ) → n ≤ m → take {A = ℕ} n (replicate m 0) ≡ replicate n 0
take_replicate zero m h = refl
take_replicate (suc n) zero h = absurd (omega arith)
take_replicate (suc n) (suc m) h = ap (λ (l : List ℕ). 0 ∷ l) (take_replicate n m (omega arith))

module _ (out room : List ℕ) where
  -- one more
  pub front_next : (p x : ℕ) → p < length out → p < length room → x ≡ get_or out p 0 → set (take p out ++ drop p room) p x ≡ take (p + 1) out ++ drop (p + 1) room
  front_next p x h k e =
      let s : suc p ≡ p + 1 = omega arith in
      ap (λ (r : List ℕ). set (take p out ++ r) p x) (drop-cons room p 0 k)
      ∙ set_at (take p out) (get_or room p 0) (drop (suc p) room) x p (length-take-le p out (omega arith))
      ∙ sym (append_snoc (take p out) x (drop (suc p) room))
      ∙ ap (λ (y : ℕ). take p out ++ (y ∷ []) ++ drop (suc p) room) e
      ∙ ap (λ (r : List ℕ). r ++ drop (suc p) room) (sym (take-suc out p 0 h))
      ∙ ap (λ (q : ℕ). take q out ++ drop q room) s

  -- all
  pub front_end : (p n : ℕ) → p ≤ n → n ≤ p → length out ≡ n → take p out ++ drop p room ≡ out ++ drop n room
  front_end p n h k e =
      ap (λ (q : ℕ). take q out ++ drop q room) (le_antisymm h k) ∙ ap (λ (r : List ℕ). r ++ drop n room) (take_all n out (omega arith))
