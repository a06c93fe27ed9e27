-- A test that antt computes at each number below n, and the law that turns it into the fact at each.
-- Assumes nothing.
use Rattle.std.proofs.Common.{◌≡◌, ℕ, zero, suc, ◌+◌, ◌-◌, ◌<◌, ◌≤◌, Bool, true, false, ◌&&◌, T, eqb, sym, refl, subst, arith, eqb→eq}
use borrow.Author.Tests.{eqb-false}

pub and_left : (a b : Bool) → T (a && b) → T a
and_left true b t = tt
and_left false b t = t

pub and_right : (a b : Bool) → T (a && b) → T b
and_right true b t = t
and_right false b t = absurd t

-- the test f passes at each number below n
abbrev pub up_to : (ℕ → Bool) → ℕ → Bool
up_to f zero = true
up_to f (suc n) = f n && up_to f n

last : (f : ℕ → Bool) (n k : ℕ) (t : Bool) → eqb k n ≡ t → T (f n && up_to f n) → k < suc n → ((k < n) → T (f k)) → T (f k)
last f n k true e p h r = subst (λ (m : ℕ). T (f m)) (sym (eqb→eq k n (subst (λ (b : Bool). T b) (sym e) tt))) (and_left (f n) (up_to f n) p)
last f n k false e p h r = let q : k ≡ n → ⊥ = eqb-false k n e in r (omega arith)

pub holds : (f : ℕ → Bool) (n : ℕ) → T (up_to f n) → (k : ℕ) → k < n → T (f k)
holds f zero t k h = absurd (let z : k < 0 = h in omega arith)
holds f (suc n) t k h = last f n k (eqb k n) refl t h (holds f n (and_right (f n) (up_to f n) t) k)

-- the same from a number on
pub holds_from : (f : ℕ → Bool) (low n : ℕ) → T (up_to (λ j. f (low + j)) n) → (k : ℕ) → low ≤ k → k < low + n → T (f k)
holds_from f low n t k h l =
    subst (λ (m : ℕ). T (f m)) (back k h) (holds (λ j. f (low + j)) n t (k - low) (omega arith))
  where
    back : (k : ℕ) → low ≤ k → low + (k - low) ≡ k
    back k h = omega arith
