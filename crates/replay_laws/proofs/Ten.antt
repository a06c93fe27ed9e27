-- A byte 10 before the seventh byte spoils a line.
-- Assumes nothing.
use Prim.Native.Nat.{ℕ, zero, suc, ◌+◌, ◌<◌, ◌≤◌}
use native.Mathlib.Omega.{arith}
use mathlib.Core.Path.{◌≡◌, refl, sym, ap, subst, ◌∙◌}
use mathlib.Core.Bool.{Bool, true, false, cond, ◌&&◌, ◌||◌}
use mathlib.Core.List.{List, [], ◌∷◌, ◌++◌}
use lib.Dec.{eqb}
use lib.ListN.{length, get_or, take, drop, get_or-append}
use lib.Seq.{get_or-take, get_or-drop}
use borrow.Author.Tests.{eqb-true}
use Rattle.instruction.proofs.Ands.{first_part, second_part}
use Rattle.instruction.proofs.Sign.{never}
use Rattle.text.specs.Four.{is_four, four_of}
use Rattle.text.specs.Hex.{is_digit, all_hex}
use Rattle.text.proofs.Fours.{four_parts}
use Rattle.views.specs.Positions.{some}
use Rattle.replay.specs.Line.{digits_in, is_line, position_of}

hex_at : (s : List ℕ) (j : ℕ) → all_hex s ≡ true → j < length s → is_digit (get_or s j 0) ≡ true
unfolding all_hex
hex_at [] j e h = absurd (omega arith)
hex_at (b ∷ s) zero e h = first_part (is_digit b) (all_hex s) e
hex_at (b ∷ s) (suc j) e h = hex_at s j (second_part (is_digit b) (all_hex s) e) (omega arith)

no_digit : (b : ℕ) → is_digit b ≡ true → b ≡ 10 → ⊥
no_digit b e f = never (sym (sym (ap is_digit f) ∙ e))

-- the parts of a line
module _ (l : List ℕ) (e : is_line l ≡ true) where
  unfolded : (eqb (length l) 7 && (eqb (get_or l 0 0) 80 && (eqb (get_or l 1 0) 9 && (eqb (get_or l 6 0) 10 && is_four (digits_in l))))) ≡ true
  unfolding is_line
  unfolded = e

  rest : (eqb (get_or l 0 0) 80 && (eqb (get_or l 1 0) 9 && (eqb (get_or l 6 0) 10 && is_four (digits_in l)))) ≡ true
  rest = second_part (eqb (length l) 7) _ unfolded

  digits : is_four (digits_in l) ≡ true
  digits = second_part (eqb (get_or l 6 0) 10) _ (second_part (eqb (get_or l 1 0) 9) _ (second_part (eqb (get_or l 0 0) 80) _ rest))

  digit_at : (j : ℕ) → j < 4 → get_or l (2 + j) 0 ≡ 10 → ⊥
  digit_at j h f =
      let w = four_parts (digits_in l) digits in
      no_digit (get_or l (2 + j) 0)
      (subst (λ (x : ℕ). is_digit x ≡ true) (get_or-take 4 (drop 2 l) j 0 h ∙ get_or-drop 2 l j 0) (hex_at (digits_in l) j w.1 (omega (arith, w.0)))) f

  no_ten : (i : ℕ) → i < 6 → get_or l i 0 ≡ 10 → ⊥
  no_ten zero h f = let z = eqb-true (get_or l 0 0) 80 (first_part (eqb (get_or l 0 0) 80) _ rest) in omega arith
  no_ten (suc zero) h f =
      let z = eqb-true (get_or l 1 0) 9 (first_part (eqb (get_or l 1 0) 9) _ (second_part (eqb (get_or l 0 0) 80) _ rest)) in omega arith
  no_ten (suc (suc j)) h f = digit_at j (omega arith) (ap (λ (x : ℕ). get_or l x 0) (let g : 2 + j ≡ suc (suc j) = omega arith in g) ∙ f)

-- where a byte 10 is
which : (x : List ℕ) → some (eqb 10) x ≡ true → (i : ℕ) × (i < length x) × (get_or x i 0 ≡ 10)
unfolding some
which [] e = absurd (never (sym e))
which (b ∷ x) e = by (eqb 10 b) refl e (which x)
  where
    by : (t : Bool) → eqb 10 b ≡ t → (t || some (eqb 10) x) ≡ true → (some (eqb 10) x ≡ true → (i : ℕ) × (i < length x) × (get_or x i 0 ≡ 10))
        → (i : ℕ) × (i < suc (length x)) × (get_or (b ∷ x) i 0 ≡ 10)
    by true f g ih = (0, omega arith, sym (eqb-true 10 b f))
    by false f g ih = let w = ih g in (suc w.0, (let h = w.1 in omega arith), w.2)

-- so no line begins with such bytes
pub spoiled : (x y : List ℕ) → length x < 7 → some (eqb 10) x ≡ true → position_of (take 7 (x ++ y)) ≡ 65536
unfolding position_of
spoiled x y h e = by (is_line (take 7 (x ++ y))) refl
  where
    by : (b : Bool) → is_line (take 7 (x ++ y)) ≡ b → cond b (four_of (digits_in (take 7 (x ++ y)))) 65536 ≡ 65536
    by true f =
        let w = which x e in
        let i = w.0 in
        let g : get_or (take 7 (x ++ y)) i 0 ≡ 10 = get_or-take 7 (x ++ y) i 0 (let k = w.1 in omega arith) ∙ get_or-append x y 0 i w.1 ∙ w.2 in
        absurd (no_ten (take 7 (x ++ y)) f i (let k = w.1 in omega arith) g)
    by false f = refl

pub some_append : (x y : List ℕ) → some (eqb 10) x ≡ true → some (eqb 10) (x ++ y) ≡ true
unfolding some
some_append [] y e = absurd (never (sym e))
some_append (b ∷ x) y e = by (eqb 10 b) e (some_append x y)
  where
    by : (t : Bool) → (t || some (eqb 10) x) ≡ true → (some (eqb 10) x ≡ true → some (eqb 10) (x ++ y) ≡ true) → (t || some (eqb 10) (x ++ y)) ≡ true
    by true g ih = refl
    by false g ih = ih g
