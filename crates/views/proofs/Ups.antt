-- Positions upward: the next, and none left.
-- Assumes nothing.
use mathlib.Core.Path.{◌≡◌, refl, sym, ap, ◌∙◌}
use mathlib.Core.Bool.{Bool, true, false, ◌||◌}
use mathlib.Core.List.{[], ◌∷◌, map}
use Prim.Native.Nat.{ℕ, zero, suc, ◌+◌, ◌-◌, ◌<◌, ◌≤◌}
use native.Mathlib.Omega.{arith}
use lib.Dec.{eqb}
use lib.ListN.{length, get_or}
use borrow.Author.Tests.{eqb-true, eqb-false}
use Rattle.instruction.proofs.Sign.{never}
use Rattle.views.specs.Positions.{up_from, some}
use Rattle.views.proofs.Ors.{or_start, or_assoc}

pub up_next : (n p : ℕ) → p < n → up_from (n - p) p ≡ p ∷ up_from (n - (p + 1)) (p + 1)
unfolding up_from
up_next n p h =
    let e : n - p ≡ suc (n - (p + 1)) = omega arith in
    ap (λ (k : ℕ). up_from k p) e ∙ ap (λ (q : ℕ). p ∷ up_from (n - (p + 1)) q) (let f : suc p ≡ p + 1 = omega arith in f)

pub up_end : (n p : ℕ) → n ≤ p → up_from (n - p) p ≡ []
unfolding up_from
up_end n p h = let e : n - p ≡ 0 = omega arith in ap (λ (k : ℕ). up_from k p) e

pub up_start : (n : ℕ) → up_from (n - 0) 0 ≡ up_from n 0
up_start n = let e : n - 0 ≡ n = omega arith in ap (λ (k : ℕ). up_from k 0) e

pub up_length : (k p : ℕ) → length (up_from k p) ≡ k
unfolding up_from
up_length zero p = refl
up_length (suc k) p = ap suc (up_length k (suc p))

-- what is shown of each position stands at its place
pub up_at : (f : ℕ → ℕ) (k p b : ℕ) → b < k → get_or (map f (up_from k p)) b 0 ≡ f (p + b)
unfolding up_from
up_at f zero p b h = absurd (omega arith)
up_at f (suc k) p zero h = ap f (let e : p ≡ p + 0 = omega arith in e)
up_at f (suc k) p (suc b) h = up_at f k (suc p) b (omega arith) ∙ ap f (let e : suc p + b ≡ p + suc b = omega arith in e)

-- one position more
pub some_snoc : (f : ℕ → Bool) (p q : ℕ) → some f (up_from (p + 1) q) ≡ (some f (up_from p q) || f (q + p))
unfolding some up_from
some_snoc f p q = ap (λ (k : ℕ). some f (up_from k q)) (let e : p + 1 ≡ suc p = omega arith in e) ∙ by p q
  where
    by : (p q : ℕ) → some f (up_from (suc p) q) ≡ (some f (up_from p q) || f (q + p))
    by zero q = or_start (f q) false refl ∙ ap f (let e : q ≡ q + 0 = omega arith in e)
    by (suc p) q =
        ap (λ (b : Bool). f q || b) (by p (suc q)) ∙ or_assoc (f q) (some f (up_from p (suc q))) (f (suc q + p))
        ∙ ap (λ (k : ℕ). some f (up_from (suc p) q) || f k) (let e : suc q + p ≡ q + suc p = omega arith in e)

pub some_none : (f : ℕ → Bool) → false ≡ some f (up_from 0 0)
unfolding some up_from
some_none f = refl

-- as many positions by another name
pub some_as : (f : ℕ → Bool) {k n : ℕ} → k ≡ n → some f (up_from k 0) ≡ some f (up_from n 0)
some_as f e = ap (λ (k : ℕ). some f (up_from k 0)) e

-- where none passes, each does not
pub none_some : (f : ℕ → Bool) (k q p : ℕ) → q ≤ p → p < q + k → some f (up_from k q) ≡ false → f p ≡ false
unfolding some up_from
none_some f zero q p h j e = absurd (omega arith)
none_some f (suc k) q p h j e = by (f q) refl e (λ i g. none_some f k (suc q) p i (omega arith) g)
  where
    by : (b : Bool) → f q ≡ b → (b || some f (up_from k (suc q))) ≡ false → (suc q ≤ p → some f (up_from k (suc q)) ≡ false → f p ≡ false) → f p ≡ false
    by true g w rest = absurd (never w)
    by false g w rest = at (eqb q p) refl
      where
        at : (t : Bool) → eqb q p ≡ t → f p ≡ false
        at true d = ap f (sym (eqb-true q p d)) ∙ g
        at false d = rest (let n : q ≡ p → ⊥ = eqb-false q p d in omega arith) w
