-- Hex digits and what they stand for: each upper-case hex text is the only one of its number.
-- Assumes nothing.
use mathlib.Core.Path.{◌≡◌, refl, sym, ap, ap₂, ◌∙◌}
use mathlib.Core.Bool.{Bool, true, false, cond, ◌&&◌, ◌||◌}
use mathlib.Core.List.{List, [], ◌∷◌, ◌++◌}
use Prim.Native.Nat.{ℕ, zero, suc, ◌+◌, ◌-◌, ◌*◌, ◌/◌, ◌%◌}
use native.Mathlib.Nat.{mod-lt}
use native.Mathlib.Omega.{arith}
use borrow.Author.Tests.{leb-true, lt-ltb, le-ltb}
use lib.Dec.{T, leb, lit<}
use lib.ListN.{length}
use Rattle.instruction.proofs.Ands.{first_part, second_part}
use Rattle.instruction.proofs.Every.{holds}
use Rattle.instruction.proofs.Sign.{never}
use Rattle.text.specs.Bytes.{bytes_of}
use Rattle.text.specs.Four.{four_of}
use Rattle.text.specs.Hex.{within, is_digit, digit_of, all_hex}
use Rattle.text.proofs.Digits.{digit_small}
use Rattle.listing.specs.Hex.{letter_of, hex1, hex2, hex3, hex4, hexes}

is : (b : Bool) → T b → b ≡ true
is true t = refl
is false t = absurd t

-- what is written are digits
pub digit_is : (n : ℕ) → is_digit (hex1 n) ≡ true
unfolding hex1
digit_is n = is _ (holds (λ k. is_digit (letter_of k)) 16 tt (n % 16) (mod-lt n (lit< tt)))

pub bytes_hex : (bs : List ℕ) → all_hex (hexes bs) ≡ true
unfolding all_hex hexes hex2
bytes_hex [] = refl
bytes_hex (b ∷ bs) = rw (digit_is (b / 16), digit_is b) (bytes_hex bs)

-- a digit is the one of its value
letter_of_lem : (b : ℕ) → is_digit b ≡ true → letter_of (digit_of b) ≡ b
unfolding digit_of
letter_of_lem b e = by (within 48 57 b) refl (within 65 70 b) refl e
  where
    by : (t : Bool) → within 48 57 b ≡ t → (u : Bool) → within 65 70 b ≡ u → (t || u) ≡ true → letter_of (cond t (b - 48) (cond u (b - 55) 0)) ≡ b
    by true f u g k =
        let l = leb-true 48 b (first_part (leb 48 b) (leb b 57) f) in
        let h = leb-true b 57 (second_part (leb 48 b) (leb b 57) f) in
        ap (λ (c : Bool). cond c (48 + (b - 48)) (55 + (b - 48))) (lt-ltb (b - 48) 10 (omega arith)) ∙ omega arith
    by false f true g k =
        let l = leb-true 65 b (first_part (leb 65 b) (leb b 70) g) in
        ap (λ (c : Bool). cond c (48 + (b - 55)) (55 + (b - 55))) (le-ltb (b - 55) 10 (omega arith)) ∙ omega arith
    by false f false g k = absurd (never (sym k))

digit_of_lem : (n b : ℕ) → is_digit b ≡ true → n % 16 ≡ digit_of b → hex1 n ≡ b
unfolding hex1
digit_of_lem n b e f = ap letter_of f ∙ letter_of_lem b e

-- two digits are those of their byte
pair_of : (a b : ℕ) → is_digit a ≡ true → is_digit b ≡ true → hex2 (digit_of a * 16 + digit_of b) ≡ a ∷ b ∷ []
unfolding hex2
pair_of a b e f =
    let h = digit_small a in
    let k = digit_small b in
    ap₂ (λ (x y : ℕ). x ∷ y ∷ []) (digit_of_lem _ a e (omega arith)) (digit_of_lem _ b f (omega arith))

pub bytes_digits : (k : ℕ) (l : List ℕ) → length l ≡ k * 2 → all_hex l ≡ true → hexes (bytes_of l) ≡ l
unfolding hexes bytes_of all_hex
bytes_digits k [] h e = refl
bytes_digits k (a ∷ []) h e = absurd (omega arith)
bytes_digits zero (a ∷ b ∷ l) h e = absurd (omega arith)
bytes_digits (suc k) (a ∷ b ∷ l) h e =
    let f = second_part (is_digit a) (is_digit b && all_hex l) e in
    ap₂ (λ (x y : List ℕ). x ++ y) (pair_of a b (first_part (is_digit a) (is_digit b && all_hex l) e) (first_part (is_digit b) (all_hex l) f))
    (bytes_digits k l (omega arith) (second_part (is_digit b) (all_hex l) f))

-- four digits are those of their number
pub four_digits : (a b c d : ℕ) (l : List ℕ) → all_hex (a ∷ b ∷ c ∷ d ∷ []) ≡ true → hex4 (four_of (a ∷ b ∷ c ∷ d ∷ l)) ≡ a ∷ b ∷ c ∷ d ∷ []
unfolding hex4 hex3 hex2 four_of all_hex
four_digits a b c d l e =
    let f = second_part (is_digit a) _ e in
    let g = second_part (is_digit b) _ f in
    let h = second_part (is_digit c) _ g in
    let i = digit_small a in
    let j = digit_small b in
    let k = digit_small c in
    let m = digit_small d in
    ap₂ (λ (x y : List ℕ). x ++ y)
    (ap₂ (λ (x y : ℕ). x ∷ y ∷ []) (digit_of_lem _ a (first_part (is_digit a) _ e) (omega arith)) (digit_of_lem _ b (first_part (is_digit b) _ f) (omega arith)))
    (ap₂ (λ (x y : ℕ). x ∷ y ∷ []) (digit_of_lem _ c (first_part (is_digit c) _ g) (omega arith)) (digit_of_lem _ d (first_part (is_digit d) _ h) (omega arith)))
