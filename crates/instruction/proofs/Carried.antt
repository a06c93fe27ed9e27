-- What a refusal carries, found again in the list of refusals that it came from.
-- Assumes nothing.
use Rattle.std.proofs.Common.{◌≡◌, ℕ, Bool, true, false, cond, List, [], ◌∷◌, ◌++◌, ℤ, arith}
use Rattle.instruction.specs.Answer.{refused, Refusal, judge}

-- each refusal of a list has a property of its number and values
abbrev pub Each : (ℕ → List ℤ → Type 0) → List Refusal → Type 0
Each P [] = Unit {0}
Each P (r ∷ rs) = P r.number r.values × Each P rs

pub each_append : (P : ℕ → List ℤ → Type 0) (rs qs : List Refusal) → Each P rs → Each P qs → Each P (rs ++ qs)
each_append P [] qs h k = k
each_append P (r ∷ rs) qs h k = (h.0, each_append P rs qs h.1 k)

pub carries : {A : Type 0} (P : ℕ → List ℤ → Type 0) (rs : List Refusal) (a : A) (n : ℕ) (vs : List ℤ) → Each P rs → refused n vs ≡ judge rs a → P n vs
unfolding judge
carries P [] a n vs h e = let z : ◌≡◌ {A = ℕ} 0 1 = cc in absurd (omega arith)
carries P (r ∷ rs) a n vs h e = by r.holds e (carries P rs a n vs h.1)
  where
    by : (t : Bool) → refused n vs ≡ cond t (refused r.number r.values) (judge rs a) → (refused n vs ≡ judge rs a → P n vs) → P n vs
    by true f rest = let p : n ≡ r.number = cc in let q : vs ≡ r.values = cc in rw (p, q) h.0
    by false f rest = rest f
