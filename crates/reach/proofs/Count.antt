-- Laws of counting the marks that pass a test. Assumes nothing.
use Prim.Native.Nat.{ℕ, zero, suc, ◌+◌, ◌<◌, ◌≤◌, zero-le}
use native.Mathlib.Omega.{arith}
use native.Mathlib.Nat.{not-suc-le-zero, le_of_suc-le-suc}
use mathlib.Core.Bool.{Bool, true, false, cond, not}
use mathlib.Core.Path.{◌≡◌, refl, sym, ap, ◌∙◌}
use mathlib.Core.Logic.{◌≢◌}
use mathlib.Core.List.{List, [], ◌∷◌}
use lib.ListN.{length, get_or, set, take, length-take}
use lib.Seq.{take-set-lt, length-take-le, get_or-take}
use lib.Dec.{eqb}
use borrow.Author.Tests.{ne_eqb}
use Rattle.reach.specs.Mark.{count}

-- 1 for a test that holds
abbrev pub one : Bool → ℕ
one b = cond b 1 0

-- the test for marks that are not 0
abbrev pub touched : ℕ → Bool
touched v = not (eqb v 0)

pub one_touched : (v : ℕ) → v ≢ 0 → one (touched v) ≡ 1
one_touched v h = rw (ne_eqb v 0 h)

pub count_le : (f : ℕ → Bool) (l : List ℕ) → count f l ≤ length l
unfolding count
count_le f [] = zero-le
count_le f (x ∷ l) = by (f x) (count_le f l)
  where
    by : (b : Bool) → count f l ≤ length l → one b + count f l ≤ suc (length l)
    by true r = omega arith
    by false r = omega arith

-- among the first n there are at most n
pub count_under : (f : ℕ → Bool) (n : ℕ) (m : List ℕ) → count f (take n m) ≤ n
count_under f n m = omega (arith, count_le f (take n m), length-take n m)

pub count_set : (f : ℕ → Bool) (l : List ℕ) (i v : ℕ) → i < length l → count f (set l i v) + one (f (get_or l i 0)) ≡ count f l + one (f v)
unfolding count
count_set f [] i v h = absurd (not-suc-le-zero h)
count_set f (x ∷ l) zero v h = omega arith
count_set f (x ∷ l) (suc i) v h = let r = count_set f l i v (le_of_suc-le-suc h) in omega arith

-- one mark of the first n changed
pub count_mark : (f : ℕ → Bool) (n : ℕ) (m : List ℕ) (i v : ℕ) → i < n → n ≤ length m
    → count f (take n (set m i v)) + one (f (get_or m i 0)) ≡ count f (take n m) + one (f v)
count_mark f n m i v h l =
    ap (λ (s : List ℕ). count f s + one (f (get_or m i 0))) (take-set-lt n m i v h)
    ∙ ap (λ (x : ℕ). count f (set (take n m) i v) + one (f x)) (sym (get_or-take n m i 0 h))
    ∙ count_set f (take n m) i v (omega (arith, length-take-le n m l))

-- where no mark of the first n passes, the count is 0
pub count_none : (f : ℕ → Bool) (n : ℕ) (m : List ℕ) → ((q : ℕ) → q < n → f (get_or m q 0) ≡ false) → n ≤ length m → count f (take n m) ≡ 0
unfolding count
count_none f zero m h l = refl
count_none f (suc n) [] h l = absurd (not-suc-le-zero l)
count_none f (suc n) (x ∷ m) h l =
    let r = count_none f n m (λ q k. h (suc q) (omega arith)) (le_of_suc-le-suc l) in
    let e : one (f x) ≡ 0 = ap one (h 0 (omega arith)) in
    omega arith
