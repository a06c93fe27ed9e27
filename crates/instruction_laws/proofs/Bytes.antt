-- Lists of bytes: two, one after the other, are a list of bytes again; and a list begins with its elements.
-- Assumes nothing.
use mathlib.Core.Path.{◌≡◌, refl}
use mathlib.Core.List.{List, [], ◌∷◌, ◌++◌}
use Prim.Native.Nat.{ℕ, zero, suc, ◌<◌, ◌≤◌}
use native.Mathlib.Omega.{arith}
use lib.ListN.{length, get_or, take}
use Rattle.instruction.specs.Bytes.{Bytes}

pub append : (s t : List ℕ) → Bytes s → Bytes t → Bytes (s ++ t)
append [] t f g n = g n
append (x ∷ s) t f g zero = f 0
append (x ∷ s) t f g (suc n) = append s t (λ i. f (suc i)) g n

-- up to three elements, read one by one
pub firsts : (s : List ℕ) (n : ℕ) → n < 4 → n ≤ length s → take n (get_or s 0 0 ∷ get_or s 1 0 ∷ get_or s 2 0 ∷ []) ≡ take n s
firsts s zero h k = refl
firsts [] (suc n) h k = absurd (let q : suc n ≤ 0 = k in omega arith)
firsts (x ∷ s) (suc zero) h k = refl
firsts (x ∷ []) (suc (suc n)) h k = absurd (let q : suc (suc n) ≤ 1 = k in omega arith)
firsts (x ∷ (y ∷ s)) (suc (suc zero)) h k = refl
firsts (x ∷ (y ∷ [])) (suc (suc (suc n))) h k = absurd (let q : suc (suc (suc n)) ≤ 2 = k in omega arith)
firsts (x ∷ (y ∷ (z ∷ s))) (suc (suc (suc zero))) h k = refl
firsts (x ∷ (y ∷ (z ∷ s))) (suc (suc (suc (suc n)))) h k = absurd (let q : suc (suc (suc (suc n))) < 4 = h in omega arith)
