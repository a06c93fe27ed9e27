-- Four bytes read at once: a byte that is no digit makes the sum too high.
-- Assumes nothing.
use Prim.Native.Nat.{ℕ, ◌+◌, ◌*◌, ◌<◌, ◌≤◌}
use native.Mathlib.Omega.{arith}
use mathlib.Core.Path.{◌≡◌, refl, sym, ap, ◌∙◌}
use mathlib.Core.Bool.{Bool, true, false, cond, ◌&&◌}
use mathlib.Core.List.{List, [], ◌∷◌}
use lib.ListN.{length, get_or}
use borrow.Author.Tests.{eq-eqb, ne_eqb}
use Rattle.text.specs.Four.{is_four, four_of, four_in}
use Rattle.text.specs.Hex.{is_digit, digit_of, value_of, all_hex}
use Rattle.text.proofs.Digits.{digit_small, value_none, value_some}

-- a value by whether its byte is a digit
some : (b v : ℕ) → v ≡ value_of b → is_digit b ≡ true → (v ≡ digit_of b) × (v < 16)
some b v e g = let h : v ≡ digit_of b = e ∙ sym (value_some b g) in (h, omega (arith, h, digit_small b))

other : (b v : ℕ) → v ≡ value_of b → is_digit b ≡ false → v ≡ 65536
other b v e g = e ∙ sym (value_none b g)

-- a list of four
four_list : (f : List ℕ) → length f ≡ 4 → f ≡ get_or f 0 0 ∷ get_or f 1 0 ∷ get_or f 2 0 ∷ get_or f 3 0 ∷ []
four_list [] e = absurd (omega arith)
four_list (a ∷ []) e = absurd (omega arith)
four_list (a ∷ b ∷ []) e = absurd (omega arith)
four_list (a ∷ b ∷ c ∷ []) e = absurd (omega arith)
four_list (a ∷ b ∷ c ∷ d ∷ []) e = refl
four_list (a ∷ b ∷ c ∷ d ∷ x ∷ f) e = absurd (omega arith)

module _ (f : List ℕ) where
  pub other_length : (length f ≡ 4 → ⊥) → 65536 ≡ four_in f
  unfolding four_in is_four
  other_length n = rw (ne_eqb (length f) 4 n) refl

  module _ (e : length f ≡ 4) where
    is_hex : all_hex f ≡ (is_digit (get_or f 0 0) && (is_digit (get_or f 1 0) && (is_digit (get_or f 2 0) && (is_digit (get_or f 3 0) && true))))
    unfolding all_hex
    is_hex = ap all_hex (four_list f e)

    by_digits : (a b c d : Bool) → is_digit (get_or f 0 0) ≡ a → is_digit (get_or f 1 0) ≡ b → is_digit (get_or f 2 0) ≡ c → is_digit (get_or f 3 0) ≡ d
        → cond (a && (b && (c && (d && true)))) (four_of f) 65536 ≡ four_in f
    unfolding four_in is_four
    by_digits a b c d p q r s = rw (eq-eqb (length f) 4 e, is_hex, p, q, r, s) refl

    module _ (a b c d : ℕ) (va : a ≡ value_of (get_or f 0 0)) (vb : b ≡ value_of (get_or f 1 0)) (vc : c ≡ value_of (get_or f 2 0)) (vd : d ≡ value_of (get_or f 3 0)) where
      abbrev sum : ℕ
      sum = ((a * 16 + b) * 16 + c) * 16 + d

      -- digits alone make a sum below 65,536
      pub too_high : 65536 ≤ sum → 65536 ≡ four_in f
      too_high h = by (is_digit (get_or f 0 0)) (is_digit (get_or f 1 0)) (is_digit (get_or f 2 0)) (is_digit (get_or f 3 0)) refl refl refl refl
        where
          by : (t u v w : Bool) → is_digit (get_or f 0 0) ≡ t → is_digit (get_or f 1 0) ≡ u → is_digit (get_or f 2 0) ≡ v → is_digit (get_or f 3 0) ≡ w
              → 65536 ≡ four_in f
          by false u v w p q r s = by_digits false u v w p q r s
          by true false v w p q r s = by_digits true false v w p q r s
          by true true false w p q r s = by_digits true true false w p q r s
          by true true true false p q r s = by_digits true true true false p q r s
          by true true true true p q r s =
              absurd (let i = (some (get_or f 0 0) a va p).1 in let j = (some (get_or f 1 0) b vb q).1 in let k = (some (get_or f 2 0) c vc r).1 in
              let l = (some (get_or f 3 0) d vd s).1 in omega arith)

      -- and any other byte one that is not
      pub as_told : sum < 65536 → sum ≡ four_in f
      unfolding four_of
      as_told h = by (is_digit (get_or f 0 0)) (is_digit (get_or f 1 0)) (is_digit (get_or f 2 0)) (is_digit (get_or f 3 0)) refl refl refl refl
        where
          by : (t u v w : Bool) → is_digit (get_or f 0 0) ≡ t → is_digit (get_or f 1 0) ≡ u → is_digit (get_or f 2 0) ≡ v → is_digit (get_or f 3 0) ≡ w
              → sum ≡ four_in f
          by false u v w p q r s = absurd (let i = other (get_or f 0 0) a va p in omega arith)
          by true false v w p q r s = absurd (let i = other (get_or f 1 0) b vb q in omega arith)
          by true true false w p q r s = absurd (let i = other (get_or f 2 0) c vc r in omega arith)
          by true true true false p q r s = absurd (let i = other (get_or f 3 0) d vd s in omega arith)
          by true true true true p q r s =
              rw ((some (get_or f 0 0) a va p).0, (some (get_or f 1 0) b vb q).0, (some (get_or f 2 0) c vc r).0, (some (get_or f 3 0) d vd s).0)
              (by_digits true true true true p q r s)
