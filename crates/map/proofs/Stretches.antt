-- Stretches of a word: each answer of the code is the definition's, digit by digit.
-- Assumes nothing.
use mathlib.Core.Path.{◌≡◌, refl, sym, ap, ap₂, ◌∙◌}
use mathlib.Core.Bool.{Bool, true, false, not, ◌&&◌, ◌||◌, or-false}
use Prim.Native.Nat.{ℕ, zero, suc, ◌+◌, ◌*◌, ◌/◌, ◌%◌, ◌-◌, ◌^◌, ◌≤◌, ◌<◌}
use native.Mathlib.Nat.{pow-suc, one-mul, mul_assoc, zero-add, zero-div, div-one, mod-eq_of_lt}
use native.Mathlib.Omega.{arith}
use lib.Bits.{bit_and, bit_or}
use lib.Count.{ones, count_trailing_zeros}
use lib.Dec.{eqb, ltb, leb}
use lib.Pow.{pow_pos, pow_mono, pow-lt, ones_lt}
use borrow.Author.Tests.{lt-ltb, le-ltb, le-leb, lt-leb, ltb-true, ltb-false, leb-true, leb-false}
use Rattle.map.specs.Bits.{one, digits, lows, between, ones_between, first_zero, with_ones}
use Rattle.map.proofs.Digits.{one_half, one_past, one_digits, digits_same, digits_part, digits_all, and_digits, or_digits, not_digits}
use Rattle.map.proofs.Digits.{ones_digits, trailing_digits, first_same}

-- ---- the bits below one

none : (i : ℕ) → one 0 i ≡ false
unfolding one
none i = ap (λ (x : ℕ). eqb (x % 2) 1) (zero-div (2 ^ i))

odd : (t : ℕ) → one (2 ^ suc t - 1) 0 ≡ true
unfolding one
odd t = ap (λ (x : ℕ). eqb x 1) (let p = pow-suc 2 t in let h = pow_pos t in let e : (2 ^ suc t - 1) / 1 % 2 ≡ 1 = omega arith in e)

ones_half : (t : ℕ) → (2 ^ suc t - 1) / 2 ≡ 2 ^ t - 1
ones_half t = let p = pow-suc 2 t in let h = pow_pos t in omega arith

pub ones_one : (t i : ℕ) → one (2 ^ t - 1) i ≡ lows t i
ones_one zero i = none i ∙ sym (le-ltb i 0 (omega arith))
ones_one (suc t) zero = odd t ∙ sym (lt-ltb 0 (suc t) (omega arith))
ones_one (suc t) (suc i) = one_half (2 ^ suc t - 1) i ∙ ap (λ (x : ℕ). one x i) (ones_half t) ∙ ones_one t i ∙ same
  where
    by : (b : Bool) → ltb i t ≡ b → b ≡ ltb (suc i) (suc t)
    by true e = sym (lt-ltb (suc i) (suc t) (let h : i < t = ltb-true i t e in omega arith))
    by false e = sym (le-ltb (suc i) (suc t) (let h : t ≤ i = ltb-false i t e in omega arith))

    same : ltb i t ≡ ltb (suc i) (suc t)
    same = by (ltb i t) refl

low_digits : (k t : ℕ) → t ≤ k → digits (lows t) k 0 ≡ 2 ^ t - 1
low_digits k t h =
    digits_same (lows t) (one (2 ^ t - 1)) k 0 (λ i l j. sym (ones_one t i))
    ∙ digits_all (2 ^ t - 1) k (let p : 2 ^ t ≤ 2 ^ k = pow_mono h in omega (arith, ones_lt t))

low_past : (k t : ℕ) → k ≤ t → digits (lows t) k 0 ≡ 2 ^ k - 1
low_past k t h =
    digits_same (lows t) (lows k) k 0 (λ i l j. lt-ltb i t (omega arith) ∙ sym (lt-ltb i k (omega arith))) ∙ low_digits k k (omega arith)

pub low_all : (t : ℕ) → 64 ≤ t → 0xFFFFFFFFFFFFFFFF ≡ digits (lows t) 64 0
low_all t h = sym (low_past 64 t h)

pub shl_one : (t : ℕ) → t < 64 → 1 * 2 ^ t % 2 ^ 64 ≡ 2 ^ t
shl_one t h = ap (λ (x : ℕ). x % 2 ^ 64) (one-mul (2 ^ t)) ∙ mod-eq_of_lt (pow-lt {i = t} {j = 64} h)

pub low_is : (t : ℕ) → t < 64 → 1 * 2 ^ t % 2 ^ 64 - 1 ≡ digits (lows t) 64 0
low_is t h = ap (λ (x : ℕ). x - 1) (shl_one t h) ∙ sym (low_digits 64 t (omega arith))

-- ---- the answers

-- from a on is not below a
from : (a i : ℕ) → not (ltb i a) ≡ leb a i
from a i = by (leb a i) refl
  where
    by : (b : Bool) → leb a i ≡ b → not (ltb i a) ≡ b
    by true e = ap not (le-ltb i a (leb-true a i e))
    by false e = ap not (lt-ltb i a (leb-false a i e))

and_turned : (a b : Bool) → (a && b) ≡ (b && a)
and_turned true true = refl
and_turned true false = refl
and_turned false true = refl
and_turned false false = refl

not_either : (a b : Bool) → not (a || b) ≡ (not b && not a)
not_either true true = refl
not_either true false = refl
not_either false true = refl
not_either false false = refl

pub stretch_is : (a e x y : ℕ) → x ≡ digits (lows e) 64 0 → y ≡ digits (lows a) 64 0 → bit_and x (2 ^ 64 - 1 - y) ≡ digits (between a e) 64 0
stretch_is a e x y p q =
    ap₂ (λ (u v : ℕ). bit_and u (2 ^ 64 - 1 - v)) p q
    ∙ ap (bit_and (digits (lows e) 64 0)) (not_digits (lows a) 64 0)
    ∙ and_digits (lows e) (λ (i : ℕ). not (lows a i)) 64 0
    ∙ digits_same (λ (i : ℕ). lows e i && not (lows a i)) (between a e) 64 0
    (λ i l h. and_turned (ltb i e) (not (ltb i a)) ∙ ap (λ (b : Bool). b && ltb i e) (from a i))

-- a number moved up by a bits
shifted : (x a i : ℕ) → one (x * 2 ^ a) i ≡ (leb a i && one x (i - a))
unfolding one
shifted x zero i =
    ap (λ (y : ℕ). one y i) (let e : x * 1 ≡ x = omega arith in e)
    ∙ sym (ap₂ (λ (b : Bool) (j : ℕ). b && one x j) (le-leb 0 i (omega arith)) (let e : i - 0 ≡ i = omega arith in e))
shifted x (suc a) i = by i (λ k. shifted x a k)
  where
    twice : x * 2 ^ suc a ≡ x * 2 ^ a * 2
    twice = ap (λ (y : ℕ). x * y) (pow-suc 2 a) ∙ sym (mul_assoc x (2 ^ a) 2)

    up : (k : ℕ) (b : Bool) → leb a k ≡ b → b ≡ leb (suc a) (suc k)
    up k true e = sym (le-leb (suc a) (suc k) (let h : a ≤ k = leb-true a k e in omega arith))
    up k false e = sym (lt-leb (suc a) (suc k) (let h : k < a = leb-false a k e in omega arith))

    by : (k : ℕ) → ((l : ℕ) → one (x * 2 ^ a) l ≡ (leb a l && one x (l - a))) → one (x * 2 ^ suc a) k ≡ (leb (suc a) k && one x (k - suc a))
    by zero r =
        ap (λ (y : ℕ). eqb y 1) (let e = twice in let f : x * 2 ^ suc a / 1 % 2 ≡ 0 = omega arith in f)
        ∙ sym (ap (λ (b : Bool). b && one x (0 - suc a)) (lt-leb (suc a) 0 (omega arith)))
    by (suc k) r =
        one_half (x * 2 ^ suc a) k
        ∙ ap (λ (y : ℕ). one y k) (let e = twice in let f : x * 2 ^ suc a / 2 ≡ x * 2 ^ a = omega arith in f)
        ∙ r k
        ∙ ap₂ (λ (b : Bool) (j : ℕ). b && one x j) (up k (leb a k) refl) (let e : k - a ≡ suc k - suc a = omega arith in e)

pub some_is : (a n x : ℕ) → x ≡ digits (lows n) 64 0 → x * 2 ^ a % 2 ^ 64 ≡ digits (between a (a + n)) 64 0
some_is a n x e =
    sym (digits_part (x * 2 ^ a) 64 0 ∙ ap (λ (y : ℕ). y % 2 ^ 64) (div-one (x * 2 ^ a)))
    ∙ digits_same (one (x * 2 ^ a)) (between a (a + n)) 64 0 (λ i l h. shifted x a i ∙ by i (omega arith) (leb a i) refl)
  where
    by : (i : ℕ) → i < 64 → (b : Bool) → leb a i ≡ b → (b && one x (i - a)) ≡ (b && ltb i (a + n))
    by i h false g = refl
    by i h true g =
        let k : a ≤ i = leb-true a i g in
        ap (λ (y : ℕ). one y (i - a)) e
        ∙ one_digits (lows n) 64 0 (i - a) (omega arith)
        ∙ near (ltb (0 + (i - a)) n) refl k
      where
        near : (t : Bool) → ltb (0 + (i - a)) n ≡ t → a ≤ i → t ≡ ltb i (a + n)
        near true f k = sym (lt-ltb i (a + n) (let l : 0 + (i - a) < n = ltb-true (0 + (i - a)) n f in omega arith))
        near false f k = sym (le-ltb i (a + n) (let l : n ≤ 0 + (i - a) = ltb-false (0 + (i - a)) n f in omega arith))

module _ (w : ℕ) (h : w < 2 ^ 64) where
  pub ones_is : (a e x : ℕ) → x ≡ digits (between a e) 64 0 → ones (bit_and w x) ≡ ones_between w a e
  unfolding ones_between
  ones_is a e x p =
      ap₂ (λ (u v : ℕ). ones (bit_and u v)) (sym (digits_all w 64 h)) p
      ∙ ap ones (and_digits (one w) (between a e) 64 0)
      ∙ ones_digits (λ (i : ℕ). one w i && between a e i) 64 0

  pub with_is : (a e x : ℕ) → x ≡ digits (between a e) 64 0 → bit_or w x ≡ with_ones w a e
  unfolding with_ones
  with_is a e x p = ap₂ bit_or (sym (digits_all w 64 h)) p ∙ or_digits (one w) (between a e) 64 0

  -- none is set from 64 on
  pub with_none : (a e : ℕ) → 64 ≤ a → w ≡ with_ones w a e
  unfolding with_ones
  with_none a e l =
      sym (digits_all w 64 h)
      ∙ digits_same (one w) (λ (i : ℕ). one w i || between a e i) 64 0
      (λ i m k. sym (ap (λ (b : Bool). one w i || (b && ltb i e)) (lt-leb a i (omega arith)) ∙ or-false (one w i)))

  pub zero_is : (a x : ℕ) → x ≡ digits (lows a) 64 0 → count_trailing_zeros 64 (2 ^ 64 - 1 - bit_or w x) ≡ first_zero w a
  unfolding first_zero
  zero_is a x p =
      ap₂ (λ (u v : ℕ). count_trailing_zeros 64 (2 ^ 64 - 1 - bit_or u v)) (sym (digits_all w 64 h)) p
      ∙ ap (λ (u : ℕ). count_trailing_zeros 64 (2 ^ 64 - 1 - u)) (or_digits (one w) (lows a) 64 0)
      ∙ ap (count_trailing_zeros 64) (not_digits (λ (i : ℕ). one w i || lows a i) 64 0)
      ∙ sym (zero-add (count_trailing_zeros 64 (digits (λ (i : ℕ). not (one w i || lows a i)) 64 0)))
      ∙ trailing_digits (λ (i : ℕ). not (one w i || lows a i)) 64 0
      ∙ first_same (λ (i : ℕ). not (one w i || lows a i)) (λ (i : ℕ). leb a i && not (one w i)) 64 0
      (λ i l j. not_either (one w i) (ltb i a) ∙ ap (λ (b : Bool). b && not (one w i)) (from a i))

  pub past_is : (i : ℕ) → 64 ≤ i → false ≡ one w i
  past_is i k = sym (one_past w i 64 h k)
