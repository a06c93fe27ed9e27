-- Digits of a number: how many, and written from the last to the first.
-- Assumes nothing.
use mathlib.Core.Path.{◌≡◌, refl, sym, ap, ◌∙◌}
use mathlib.Core.Bool.{Bool, true, false}
use mathlib.Core.List.{List, [], ◌∷◌, ◌++◌}
use Prim.Native.Nat.{ℕ, zero, suc, ◌+◌, ◌-◌, ◌*◌, ◌/◌, ◌%◌, ◌≤◌, ◌<◌}
use native.Mathlib.Nat.{add-zero, add-suc, suc-add}
use native.Mathlib.Omega.{arith}
use lib.Dec.{ltb}
use lib.ListN.{length, set, length-append}
use lib.Seq.{sets, set_comm}
use borrow.Author.Tests.{lt-ltb, le-ltb, ltb-false}
use Rattle.list_text.specs.Decimal.{lowest, width, decimal}

-- it does not matter how often tens may be taken off, if often enough
width_any : (k j n : ℕ) → n ≤ k → n ≤ j → width k n ≡ width j n
unfolding width
width_any zero zero n h g = refl
width_any zero (suc j) n h g = rw (lt-ltb n 10 (omega arith))
width_any (suc k) zero n h g = rw (lt-ltb n 10 (omega arith))
width_any (suc k) (suc j) n h g = by (ltb n 10) refl (width_any k j (n / 10))
  where
    by : (t : Bool) → ltb n 10 ≡ t → (n / 10 ≤ k → n / 10 ≤ j → width k (n / 10) ≡ width j (n / 10)) → width (suc k) n ≡ width (suc j) n
    by true e rest = rw e
    by false e rest = let l = ltb-false n 10 e in rw e (ap suc (rest (omega arith) (omega arith)))

pub width_one : (n : ℕ) → n < 10 → width n n ≡ 1
unfolding width
width_one zero h = refl
width_one (suc n) h = rw (lt-ltb (suc n) 10 h)

pub width_more : (n : ℕ) → 10 ≤ n → width n n ≡ suc (width (n / 10) (n / 10))
unfolding width
width_more zero h = absurd (omega arith)
width_more (suc n) h = rw (le-ltb (suc n) 10 h) (ap suc (width_any n (suc n / 10) (suc n / 10) (omega arith) (omega arith)))

pub width_most : (k n : ℕ) → width k n ≤ 1 + n / 10
unfolding width
width_most zero n = omega arith
width_most (suc k) n = by (ltb n 10) refl (width_most k (n / 10))
  where
    by : (t : Bool) → ltb n 10 ≡ t → width k (n / 10) ≤ 1 + n / 10 / 10 → width (suc k) n ≤ 1 + n / 10
    by true e h = rw e (omega arith)
    by false e h = let l = ltb-false n 10 e in rw e (omega arith)

pub lowest_length : (k n : ℕ) → length (lowest k n) ≡ k
unfolding lowest
lowest_length zero n = refl
lowest_length (suc k) n = omega (arith, length-append (lowest k (n / 10)) ((48 + n % 10) ∷ []), lowest_length k (n / 10))

-- a byte behind what is written may be written before it
sets_behind : (s l : List ℕ) (at p b : ℕ) → at + length s ≤ p → sets (set l p b) at s ≡ set (sets l at s) p b
sets_behind [] l at p b h = refl
sets_behind (x ∷ s) l at p b h = ap (λ (m : List ℕ). sets m (suc at) s) (set_comm l p at b x (λ e. omega arith))
    ∙ sets_behind s (set l at x) (suc at) p b (omega arith)

sets_snoc : (s l : List ℕ) (at b : ℕ) → sets l at (s ++ b ∷ []) ≡ set (sets l at s) (at + length s) b
sets_snoc [] l at b = rw add-zero
sets_snoc (x ∷ s) l at b = rw (add-suc, ← suc-add, sets_snoc s (set l at x))

-- the last digit first
pub last_first : (l : List ℕ) (at i m : ℕ) → 0 < i → sets (set l (at + (i - 1)) (48 + m % 10)) at (lowest (i - 1) (m / 10)) ≡ sets l at (lowest i m)
unfolding lowest
last_first l at zero m h = absurd (omega arith)
last_first l at (suc j) m h =
    let e : suc j - 1 ≡ j = omega arith in
    let s = lowest j (m / 10) in
    let k = lowest_length j (m / 10) in
    rw e (sets_behind s l at (at + j) (48 + m % 10) (omega arith) ∙ ap (λ (p : ℕ). set (sets l at s) (at + p) (48 + m % 10)) (sym k)
    ∙ sym (sets_snoc s l at (48 + m % 10)))

pub none_left : (l : List ℕ) (at i m : ℕ) → i ≤ 0 → sets l at (lowest i m) ≡ l
unfolding lowest
none_left l at zero m h = refl
none_left l at (suc i) m h = absurd (omega arith)

-- 10 to the power d + 1
unfoldable tens : ℕ → ℕ
tens zero = 10
tens (suc d) = 10 * tens d

width_under : (d k n : ℕ) → n < tens d → width k n ≤ suc d
unfolding width tens
width_under d zero n h = omega arith
width_under zero (suc k) n h = rw (lt-ltb n 10 h) (omega arith)
width_under (suc d) (suc k) n h = by (ltb n 10) refl (width_under d k (n / 10))
  where
    by : (t : Bool) → ltb n 10 ≡ t → (n / 10 < tens d → width k (n / 10) ≤ suc d) → width (suc k) n ≤ suc (suc d)
    by true e rest = rw e (omega arith)
    by false e rest = rw e (omega (arith, rest (omega (arith, h))))

-- 64 bits are 20 digits at most
pub width_of : (n : ℕ) → n ≤ 18446744073709551615 → width n n ≤ 20
unfolding tens
width_of n h = let l : n < 100000000000000000000 = omega arith in width_under 19 n n l

pub decimal_length : (n : ℕ) → n ≤ 18446744073709551615 → length (decimal n) ≤ 20
decimal_length n h = omega (arith, lowest_length (width n n) n, width_of n h)
