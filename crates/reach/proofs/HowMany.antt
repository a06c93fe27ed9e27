-- Laws of counting the positions that pass a test. Assumes nothing.
use Prim.Native.Nat.{ℕ, zero, suc, ◌+◌, ◌<◌, ◌≤◌, zero-le}
use native.Mathlib.Omega.{arith}
use native.Mathlib.Nat.{not-suc-le-zero, le_of_suc-le-suc}
use mathlib.Core.Bool.{Bool, true, false, ◌||◌}
use mathlib.Core.Path.{◌≡◌, refl, ap, ◌∙◌}
use mathlib.Core.List.{List, [], ◌∷◌}
use lib.ListN.{length, get_or, take}
use Rattle.reach.specs.Mark.{count}
use Rattle.reach.specs.HowMany.{how_many}
use Rattle.reach.proofs.Count.{one}

-- two tests that say the same of these positions count the same
pub many_same : (f g : ℕ → Bool) (k p : ℕ) → ((q : ℕ) → p ≤ q → q < p + k → f q ≡ g q) → how_many f k p ≡ how_many g k p
unfolding how_many
many_same f g zero p h = refl
many_same f g (suc k) p h =
    let r = many_same f g k (suc p) (λ q a b. h q (omega arith) (omega arith)) in
    let e : one (f p) ≡ one (g p) = ap one (h p (omega arith) (omega arith)) in
    omega arith

-- a test that none passes
pub many_none : (k p : ℕ) → how_many (λ (q : ℕ). false) k p ≡ 0
unfolding how_many
many_none zero p = refl
many_none (suc k) p = let r = many_none k (suc p) in omega arith

one_or : (a b : Bool) → one (a || b) ≤ one a + one b
one_or true b = omega arith
one_or false b = omega arith

-- what passes one of two tests
pub many_or : (f g : ℕ → Bool) (k p : ℕ) → how_many (λ (q : ℕ). f q || g q) k p ≤ how_many f k p + how_many g k p
unfolding how_many
many_or f g zero p = zero-le
many_or f g (suc k) p = let r = many_or f g k (suc p) in let e = one_or (f p) (g p) in omega arith

-- the marks of the first n positions that pass a test
pub many_marks : (f : ℕ → Bool) (n : ℕ) (m : List ℕ) → n ≤ length m → count f (take n m) ≡ how_many (λ (q : ℕ). f (get_or m q 0)) n 0
unfolding count how_many
many_marks f n m l = by n m l 0 (λ q. ap (λ (y : ℕ). get_or m y 0) (let z : q ≡ 0 + q = omega arith in z))
  where
    by : (k : ℕ) (s : List ℕ) → k ≤ length s → (p : ℕ) → ((q : ℕ) → get_or s q 0 ≡ get_or m (p + q) 0)
        → count f (take k s) ≡ how_many (λ (q : ℕ). f (get_or m q 0)) k p
    by zero s h p e = refl
    by (suc k) [] h p e = absurd (not-suc-le-zero h)
    by (suc k) (x ∷ s) h p e =
        let r = by k s (le_of_suc-le-suc h) (suc p) (λ q. e (suc q) ∙ ap (λ (y : ℕ). get_or m y 0) (let z : p + suc q ≡ suc p + q = omega arith in z)) in
        let y : one (f x) ≡ one (f (get_or m p 0)) = ap (λ (v : ℕ). one (f v)) (e 0 ∙ ap (λ (y : ℕ). get_or m y 0) (let z : p + 0 ≡ p = omega arith in z)) in
        omega arith
