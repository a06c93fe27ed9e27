-- A number by its binary digits: each operation on words is the same operation on each digit.
-- Assumes nothing.
use mathlib.Core.Path.{◌≡◌, refl, sym, ap, ap₂, ◌∙◌}
use mathlib.Core.Bool.{Bool, true, false, cond, not, ◌&&◌, ◌||◌}
use Prim.Native.Nat.{ℕ, zero, suc, ◌+◌, ◌*◌, ◌/◌, ◌%◌, ◌-◌, ◌^◌, ◌≤◌, ◌<◌, min, max}
use native.Mathlib.Nat.{pow-suc, pow-succ', div-one, div-div-eq-div-mul, mod-one, mod-eq_of_lt, mod-lt, div-eq_of_lt}
use native.Mathlib.Omega.{arith}
use lib.Arith.{mod-mul}
use lib.Bits.{bit_and, bit_or, and_step, or_step}
use lib.Count.{ones, ones_step, count_trailing_zeros, under}
use lib.Dec.{eqb, lit<}
use lib.Pow.{pow_pos, pow_mono}
use Rattle.map.specs.Bits.{one, bit, digits, count_in, first_in}

pub digit_le : (b : Bool) → bit b ≤ 1
digit_le true = omega arith
digit_le false = omega arith

half : (w : ℕ) (b : Bool) → (w * 2 + bit b) / 2 ≡ w
half w b = omega (arith, digit_le b)

lowest : (w : ℕ) (b : Bool) → (w * 2 + bit b) % 2 ≡ bit b
lowest w b = omega (arith, digit_le b)

-- ---- one digit of a number

pub one_half : (w i : ℕ) → one w (suc i) ≡ one (w / 2) i
unfolding one
one_half w i =
    ap (λ (x : ℕ). eqb (w / x % 2) 1) (pow-succ' 2 i) ∙ ap (λ (x : ℕ). eqb (x % 2) 1) (sym (div-div-eq-div-mul w 2 (2 ^ i)))

one_lowest : (w : ℕ) → one w 0 ≡ eqb (w % 2) 1
unfolding one
one_lowest w = ap (λ (x : ℕ). eqb (x % 2) 1) (div-one w)

digit_back : (x : ℕ) → x < 2 → bit (eqb x 1) ≡ x
digit_back zero h = refl
digit_back (suc zero) h = refl
digit_back (suc (suc x)) h = absurd (omega arith)

one_back : (b : Bool) → eqb (bit b) 1 ≡ b
one_back true = refl
one_back false = refl

-- past the number's length there is none
pub one_past : (w i k : ℕ) → w < 2 ^ k → k ≤ i → one w i ≡ false
unfolding one
one_past w i k h l = ap (λ (x : ℕ). eqb (x % 2) 1) (div-eq_of_lt (let p : 2 ^ k ≤ 2 ^ i = pow_mono l in let g : w < 2 ^ i = omega arith in g))

-- the digits of a number that is made of them
pub one_digits : (f : ℕ → Bool) (k q i : ℕ) → i < k → one (digits f k q) i ≡ f (q + i)
unfolding digits
one_digits f zero q i h = absurd (omega arith)
one_digits f (suc k) q zero h =
    one_lowest (digits f k (suc q) * 2 + bit (f q)) ∙ ap (λ (x : ℕ). eqb x 1) (lowest (digits f k (suc q)) (f q))
    ∙ one_back (f q) ∙ ap f (let e : q ≡ q + 0 = omega arith in e)
one_digits f (suc k) q (suc i) h =
    one_half (digits f k (suc q) * 2 + bit (f q)) i ∙ ap (λ (x : ℕ). one x i) (half (digits f k (suc q)) (f q))
    ∙ one_digits f k (suc q) i (omega arith) ∙ ap f (let e : suc q + i ≡ q + suc i = omega arith in e)

pub digits_lt : (f : ℕ → Bool) (k q : ℕ) → digits f k q < 2 ^ k
unfolding digits
digits_lt f zero q = omega arith
digits_lt f (suc k) q = rw pow-suc (omega (arith, digits_lt f k (suc q), digit_le (f q)))

-- the same digits make the same number
pub digits_same : (f g : ℕ → Bool) (k q : ℕ) → ((i : ℕ) → q ≤ i → i < q + k → f i ≡ g i) → digits f k q ≡ digits g k q
unfolding digits
digits_same f g zero q e = refl
digits_same f g (suc k) q e =
    ap₂ (λ (x : ℕ) (b : Bool). x * 2 + bit b) (digits_same f g k (suc q) (λ i l h. e i (omega arith) (omega arith))) (e q (omega arith) (omega arith))

-- from another place too
pub digits_moved : (f g : ℕ → Bool) (k p q : ℕ) → ((i : ℕ) → i < k → f (p + i) ≡ g (q + i)) → digits f k p ≡ digits g k q
unfolding digits
digits_moved f g zero p q h = refl
digits_moved f g (suc k) p q h =
    ap₂ (λ (x : ℕ) (b : Bool). x * 2 + bit b)
    (digits_moved f g k (suc p) (suc q)
    (λ i l. ap f (let e : suc p + i ≡ p + suc i = omega arith in e) ∙ h (suc i) (omega arith) ∙ ap g (let e : q + suc i ≡ suc q + i = omega arith in e)))
    (ap f (let e : p ≡ p + 0 = omega arith in e) ∙ h 0 (omega arith) ∙ ap g (let e : q + 0 ≡ q = omega arith in e))

last : (w q : ℕ) → bit (one w q) ≡ w / 2 ^ q % 2
unfolding one
last w q = digit_back (w / 2 ^ q % 2) (mod-lt (w / 2 ^ q) (lit< tt))

-- a number is made of its digits
pub digits_part : (w k q : ℕ) → digits (one w) k q ≡ (w / 2 ^ q) % 2 ^ k
unfolding digits
digits_part w zero q = sym (mod-one (w / 2 ^ q))
digits_part w (suc k) q =
    ap (λ (x : ℕ). x * 2 + bit (one w q)) (digits_part w k (suc q))
    ∙ ap₂ (λ (x y : ℕ). (x % 2 ^ k) * 2 + y) halved (last w q)
    ∙ sym (mod-mul (w / 2 ^ q) (pow_pos k) (lit< tt))
    ∙ ap (λ (x : ℕ). (w / 2 ^ q) % x) (sym (pow-suc 2 k))
  where
    halved : w / 2 ^ suc q ≡ w / 2 ^ q / 2
    halved = ap (λ (x : ℕ). w / x) (pow-suc 2 q) ∙ sym (div-div-eq-div-mul w (2 ^ q) 2)

pub digits_all : (w k : ℕ) → w < 2 ^ k → digits (one w) k 0 ≡ w
digits_all w k h = digits_part w k 0 ∙ ap (λ (x : ℕ). x % 2 ^ k) (div-one w) ∙ mod-eq_of_lt h

-- ---- operations digit by digit

and_digit : (a b : Bool) → min (bit a) (bit b) ≡ bit (a && b)
and_digit true true = refl
and_digit true false = refl
and_digit false true = refl
and_digit false false = refl

or_digit : (a b : Bool) → max (bit a) (bit b) ≡ bit (a || b)
or_digit true true = refl
or_digit true false = refl
or_digit false true = refl
or_digit false false = refl

pub and_digits : (f g : ℕ → Bool) (k q : ℕ) → bit_and (digits f k q) (digits g k q) ≡ digits (λ (i : ℕ). f i && g i) k q
unfolding digits
and_digits f g zero q = refl
and_digits f g (suc k) q =
    let a = digits f k (suc q) in
    let b = digits g k (suc q) in
    and_step (a * 2 + bit (f q)) (b * 2 + bit (g q))
    ∙ ap₂ (λ (x y : ℕ). x * 2 + y)
    (ap₂ bit_and (half a (f q)) (half b (g q)) ∙ and_digits f g k (suc q))
    (ap₂ min (lowest a (f q)) (lowest b (g q)) ∙ and_digit (f q) (g q))

pub or_digits : (f g : ℕ → Bool) (k q : ℕ) → bit_or (digits f k q) (digits g k q) ≡ digits (λ (i : ℕ). f i || g i) k q
unfolding digits
or_digits f g zero q = refl
or_digits f g (suc k) q =
    let a = digits f k (suc q) in
    let b = digits g k (suc q) in
    or_step (a * 2 + bit (f q)) (b * 2 + bit (g q))
    ∙ ap₂ (λ (x y : ℕ). x * 2 + y)
    (ap₂ bit_or (half a (f q)) (half b (g q)) ∙ or_digits f g k (suc q))
    (ap₂ max (lowest a (f q)) (lowest b (g q)) ∙ or_digit (f q) (g q))

not_digit : (a : Bool) → bit (not a) ≡ 1 - bit a
not_digit true = refl
not_digit false = refl

pub not_digits : (f : ℕ → Bool) (k q : ℕ) → 2 ^ k - 1 - digits f k q ≡ digits (λ (i : ℕ). not (f i)) k q
unfolding digits
not_digits f zero q = refl
not_digits f (suc k) q =
    let e = not_digits f k (suc q) in
    let h = digits_lt f k (suc q) in
    rw pow-suc (omega (arith, not_digit (f q), digit_le (f q)))

-- ---- counts and searches

pub ones_digits : (f : ℕ → Bool) (k q : ℕ) → ones (digits f k q) ≡ count_in f k q
unfolding digits count_in ones
ones_digits f zero q = refl
ones_digits f (suc k) q =
    let a = digits f k (suc q) in
    ones_step (a * 2 + bit (f q))
    ∙ ap₂ (λ (x y : ℕ). x + ones y) (lowest a (f q)) (half a (f q))
    ∙ ap (λ (x : ℕ). bit (f q) + x) (ones_digits f k (suc q))

pub trailing_digits : (f : ℕ → Bool) (k q : ℕ) → q + count_trailing_zeros k (digits f k q) ≡ first_in f k q
unfolding digits first_in count_trailing_zeros
trailing_digits f zero q = omega arith
trailing_digits f (suc k) q =
    let a = digits f k (suc q) in
    ap₂ (λ (x y : ℕ). q + under x y) (lowest a (f q)) (ap (count_trailing_zeros k) (half a (f q)))
    ∙ by (f q) (trailing_digits f k (suc q))
  where
    by : (b : Bool) → suc q + count_trailing_zeros k (digits f k (suc q)) ≡ first_in f k (suc q)
        → q + under (bit b) (count_trailing_zeros k (digits f k (suc q))) ≡ cond b q (first_in f k (suc q))
    by true e = omega arith
    by false e = omega arith

pub count_same : (f g : ℕ → Bool) (k q : ℕ) → ((i : ℕ) → q ≤ i → i < q + k → f i ≡ g i) → count_in f k q ≡ count_in g k q
unfolding count_in
count_same f g zero q e = refl
count_same f g (suc k) q e =
    ap₂ (λ (x : ℕ) (b : Bool). bit b + x) (count_same f g k (suc q) (λ i l h. e i (omega arith) (omega arith))) (e q (omega arith) (omega arith))

pub first_same : (f g : ℕ → Bool) (k q : ℕ) → ((i : ℕ) → q ≤ i → i < q + k → f i ≡ g i) → first_in f k q ≡ first_in g k q
unfolding first_in
first_same f g zero q e = refl
first_same f g (suc k) q e =
    ap₂ (λ (x : ℕ) (b : Bool). cond b q x) (first_same f g k (suc q) (λ i l h. e i (omega arith) (omega arith))) (e q (omega arith) (omega arith))
