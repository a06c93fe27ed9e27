-- Bytes in hex, judged test by test, and read pair by pair.
-- Assumes nothing.
use mathlib.Core.Path.{◌≡◌, refl}
use mathlib.Core.Bool.{true, false, ◌&&◌}
use mathlib.Core.List.{List, [], ◌∷◌}
use Prim.Native.Nat.{ℕ, zero, suc, ◌+◌, ◌-◌, ◌*◌, ◌/◌, ◌≤◌, ◌<◌}
use native.Mathlib.Omega.{arith}
use lib.Dec.{leb, eqb}
use lib.ListN.{length, get_or, drop, length-drop}
use lib.Seq.{drop-cons}
use borrow.Author.Tests.{eqb-true, leb-true, le-leb, lt-leb, eq-eqb, ne_eqb}
use Rattle.text.specs.Bytes.{bytes_of, is_bytes}
use Rattle.text.specs.Hex.{digit_of, all_hex}
use Rattle.text.proofs.Digits.{digit_small}
use Rattle.instruction.proofs.Ands.{first_part, second_part}

-- two digits for each byte, and one may be left over
half : (l : List ℕ) → (length (bytes_of l) * 2 ≤ length l) × (length l ≤ length (bytes_of l) * 2 + 1)
unfolding bytes_of
half [] = (omega arith, omega arith)
half (a ∷ []) = (omega arith, omega arith)
half (a ∷ b ∷ l) = let h = half l in (omega arith, omega arith)

-- as many bytes as there are pairs
pub pairs : (l : List ℕ) (n : ℕ) → n ≡ length l / 2 → length (bytes_of l) ≡ n
pairs l n e = let h = half l in omega arith

-- each test, with n for half of the length
module _ (most : ℕ) (l : List ℕ) (n : ℕ) (e : n ≡ length l / 2) where
  pub odd : (length l ≡ n * 2 → ⊥) → false ≡ is_bytes most l
  unfolding is_bytes
  odd h = rw (pairs l n e, ne_eqb (length l) (n * 2) h)

  module _ (even : length l ≡ n * 2) where
    pub none : n ≡ 0 → false ≡ is_bytes most l
    unfolding is_bytes
    none h = rw (pairs l n e, eq-eqb (length l) (n * 2) even, lt-leb 1 n (omega arith))

    module _ (some : n ≡ 0 → ⊥) where
      pub many : most < n → false ≡ is_bytes most l
      unfolding is_bytes
      many h = rw (pairs l n e, eq-eqb (length l) (n * 2) even, le-leb 1 n (omega arith), lt-leb n most h)

      pub few : n ≤ most → all_hex l ≡ is_bytes most l
      unfolding is_bytes
      few h = rw (pairs l n e, eq-eqb (length l) (n * 2) even, le-leb 1 n (omega arith), le-leb n most h)

-- what a text of bytes is: two digits for each byte, a byte or more, no more than allowed, and nothing but digits
pub bytes_parts : (most : ℕ) (l : List ℕ) → is_bytes most l ≡ true
    → (length l ≡ length (bytes_of l) * 2) × (1 ≤ length (bytes_of l)) × (length (bytes_of l) ≤ most) × (all_hex l ≡ true)
unfolding is_bytes
bytes_parts most l e =
    let n = length (bytes_of l) in
    let a = eqb (length l) (n * 2) in
    let b = a && leb 1 n in
    let d = b && leb n most in
    let f = first_part d (all_hex l) e in
    let g = first_part b (leb n most) f in (
      eqb-true (length l) (n * 2) (first_part a (leb 1 n) g),
      leb-true 1 n (second_part a (leb 1 n) g),
      leb-true n most (second_part b (leb n most) f),
      second_part d (all_hex l) e,
    )

-- the pair whose second digit stands at a place, or no pair left
module _ (l : List ℕ) (i : ℕ) (h : 1 ≤ i) where
  pub pair_next : i < length l → bytes_of (drop (i - 1) l) ≡ (digit_of (get_or l (i - 1) 0) * 16 + digit_of (get_or l i 0)) ∷ bytes_of (drop (i + 2 - 1) l)
  unfolding bytes_of
  pair_next k =
      let a : suc (i - 1) ≡ i = omega arith in
      let b : i + 2 - 1 ≡ suc i = omega arith in
      rw (b, drop-cons l (i - 1) 0 (omega arith), a, drop-cons l i 0 k)

  pub pair_end : length l ≤ i → bytes_of (drop (i - 1) l) ≡ []
  unfolding bytes_of
  pair_end k = short (drop (i - 1) l) (simp length-drop (omega arith))
    where
      short : (l : List ℕ) → length l ≤ 1 → bytes_of l ≡ []
      short [] h = refl
      short (a ∷ []) h = refl
      short (a ∷ b ∷ l) h = absurd (omega arith)

-- each is a byte
pub bytes_small : (l : List ℕ) (n : ℕ) → get_or (bytes_of l) n 0 < 256
unfolding bytes_of
bytes_small [] n = omega arith
bytes_small (a ∷ []) n = omega arith
bytes_small (a ∷ b ∷ l) zero = omega (arith, digit_small a, digit_small b)
bytes_small (a ∷ b ∷ l) (suc n) = bytes_small l n
