-- Positions upward of which those are kept that pass a test.
-- Assumes nothing.
use mathlib.Core.Path.{◌≡◌, refl, ap, ◌∙◌}
use mathlib.Core.Bool.{Bool, true, false, cond}
use mathlib.Core.List.{List, [], ◌∷◌, ◌++◌}
use Prim.Native.Nat.{ℕ, zero, suc, ◌+◌, ◌-◌, ◌<◌, ◌≤◌}
use native.Mathlib.Numerals.{add-one}
use native.Mathlib.Omega.{arith}
use lib.ListN.{length}
use Rattle.views.specs.Positions.{up_from, kept}
use Rattle.views.proofs.Ups.{up_next, up_end, up_start}

-- q alone, if it is taken
abbrev pub taken : Bool → ℕ → List ℕ
taken t q = cond t (q ∷ []) []

first : (t : Bool) (q : ℕ) (l : List ℕ) → cond t (q ∷ l) l ≡ taken t q ++ l
first true q l = refl
first false q l = refl

fewer : (t : Bool) (q k : ℕ) (l : List ℕ) → length l ≤ k → length (cond t (q ∷ l) l) ≤ suc k
fewer true q k l h = omega arith
fewer false q k l h = omega arith

module _ (f : ℕ → Bool) where
  pub kept_none : (k q : ℕ) → k ≡ 0 → kept f (up_from k q) ≡ []
  unfolding kept up_from
  kept_none k q e = rw e

  pub kept_one : (k q : ℕ) → k ≡ 1 → kept f (up_from k q) ≡ taken (f q) q
  unfolding kept up_from
  kept_one k q e = rw e

  pub kept_two : (k q : ℕ) → k ≡ 2 → kept f (up_from k q) ≡ taken (f q) q ++ taken (f (q + 1)) (q + 1)
  unfolding kept up_from
  kept_two k q e = rw (e, add-one) (first (f q) q (taken (f (suc q)) (suc q)))

  pub kept_no : ((q : ℕ) → f q ≡ false) → (l : List ℕ) → kept f l ≡ []
  unfolding kept
  kept_no h [] = refl
  kept_no h (q ∷ l) = rw (h q) (kept_no h l)

  pub kept_few : (k q : ℕ) → length (kept f (up_from k q)) ≤ k
  unfolding kept up_from
  kept_few zero q = omega arith
  kept_few (suc k) q = fewer (f q) q k (kept f (up_from k (suc q))) (kept_few k (suc q))

  module _ (n : ℕ) where
    -- those from q on that are below n
    pub kept_from : ℕ → List ℕ
    kept_from q = kept f (up_from (n - q) q)

    pub from_is : (q : ℕ) → kept_from q ≡ kept f (up_from (n - q) q)
    unfolding kept_from
    from_is q = refl

    pub from_start : kept_from 0 ≡ kept f (up_from n 0)
    unfolding kept_from
    from_start = ap (kept f) (up_start n)

    pub from_end : (q : ℕ) → n ≤ q → kept_from q ≡ []
    unfolding kept_from kept
    from_end q h = ap (kept f) (up_end n q h)

    pub from_takes : (q : ℕ) → q < n → f q ≡ true → kept_from q ≡ q ∷ kept_from (q + 1)
    unfolding kept_from kept
    from_takes q h e = ap (kept f) (up_next n q h) ∙ rw e

    pub from_skips : (q : ℕ) → q < n → f q ≡ false → kept_from q ≡ kept_from (q + 1)
    unfolding kept_from kept
    from_skips q h e = ap (kept f) (up_next n q h) ∙ rw e
