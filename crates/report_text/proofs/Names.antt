-- Names: each test of the code is one of the definition.
-- Assumes nothing.
use mathlib.Core.Path.{◌≡◌, refl, sym, ap, ap₂, ◌∙◌}
use mathlib.Core.Bool.{Bool, true, false, ◌&&◌, ◌||◌}
use mathlib.Core.List.{List, [], ◌∷◌}
use Prim.Native.Nat.{ℕ, ◌+◌, ◌-◌, ◌≤◌, ◌<◌}
use native.Mathlib.Omega.{arith}
use lib.Dec.{eqb, leb}
use lib.ListN.{length, get_or, take, drop, length-drop}
use lib.Pointwise.{pointwise}
use borrow.Author.Tests.{le-leb, lt-leb, leb-true}
use Rattle.std.specs.List.{list_all}
use Rattle.std.specs.Char.{is_ascii_alphanumeric}
use Rattle.instruction.proofs.Ands.{not_first, not_second, first_part, second_part}
use Rattle.report_text.specs.Name.{is_letter_or_digit, all_named, is_name, is_name_line, name_in, name_of}

-- the library's test, and ours
all_as : (n : List ℕ) → list_all is_ascii_alphanumeric n ≡ all_named n
unfolding all_named
all_as [] = refl
all_as (b ∷ n) =
    ap₂ (λ (x y : Bool). x && y) (by (leb 48 b && leb b 57) (leb 65 b && leb b 90) (leb 97 b && leb b 122)) (all_as n)
  where
    by : (x y z : Bool) → ((x || y) || z) ≡ (x || (y || z))
    by true y z = refl
    by false y z = refl

-- a line that begins with `N` and a tab, and one that does not
pub unstarted : (l : List ℕ) → pointwise eqb (take 2 l) (78 ∷ 9 ∷ []) ≡ false → is_name_line l ≡ false
unfolding is_name_line
unstarted [] h = refl
unstarted (x ∷ []) h = not_second (eqb x 78) _ refl
unstarted (x ∷ y ∷ t) h = by (eqb x 78) (eqb y 9) (is_name t) h
  where
    by : (p q r : Bool) → (p && (q && true)) ≡ false → (p && (q && r)) ≡ false
    by true true r g = cc
    by true false r g = refl
    by false q r g = refl

started : (l : List ℕ) → pointwise eqb (take 2 l) (78 ∷ 9 ∷ []) ≡ true → is_name_line l ≡ is_name (name_in l)
unfolding is_name_line
started [] h = cc
started (x ∷ []) h = by (eqb x 78) h
  where
    by : (p : Bool) → (p && false) ≡ true → is_name_line (x ∷ []) ≡ is_name (name_in (x ∷ []))
    by true g = cc
    by false g = cc
started (x ∷ y ∷ t) h = by (eqb x 78) (eqb y 9) (is_name t) h
  where
    by : (p q r : Bool) → (p && (q && true)) ≡ true → (p && (q && r)) ≡ r
    by true true r g = refl
    by true false r g = cc
    by false q r g = cc

-- what follows, and is no name
module _ (n : List ℕ) where
  no_letter : length n ≡ 0 → is_name n ≡ false
  unfolding is_name
  no_letter h = not_first _ _ (lt-leb 1 (length n) (omega arith))

  too_long : 32 < length n → is_name n ≡ false
  unfolding is_name
  too_long h = not_second (leb 1 (length n)) _ (not_first _ _ (lt-leb (length n) 32 h))

  other_byte : list_all is_ascii_alphanumeric n ≡ false → is_name n ≡ false
  unfolding is_name
  other_byte e = not_second (leb 1 (length n)) _ (not_second (leb (length n) 32) _ (sym (all_as n) ∙ e))

  all_letters : (length n ≡ 0 → ⊥) → length n ≤ 32 → list_all is_ascii_alphanumeric n ≡ true → is_name n ≡ true
  unfolding is_name
  all_letters g h e = rw (le-leb 1 (length n) (omega arith), le-leb (length n) 32 h, sym (all_as n) ∙ e)

pub too_short_lem : (l : List ℕ) → length l < 3 → is_name_line l ≡ false
unfolding is_name_line
too_short_lem l h =
    not_second (eqb (get_or l 0 0) 78) _ (not_second (eqb (get_or l 1 0) 9) _ (no_letter (name_in l) (omega (arith, length-drop 2 l))))

module _ (l n : List ℕ) (s : pointwise eqb (take 2 l) (78 ∷ 9 ∷ []) ≡ true) (e : n ≡ name_in l) where
  from_name : (b : Bool) → is_name n ≡ b → is_name_line l ≡ b
  from_name b h = started l s ∙ ap is_name (sym e) ∙ h

  pub line_empty : length n ≡ 0 → is_name_line l ≡ false
  line_empty h = from_name false (no_letter n h)

  pub line_long : 32 < length n → is_name_line l ≡ false
  line_long h = from_name false (too_long n h)

  pub line_other : list_all is_ascii_alphanumeric n ≡ false → is_name_line l ≡ false
  line_other h = from_name false (other_byte n h)

  pub line_named : (length n ≡ 0 → ⊥) → length n ≤ 32 → list_all is_ascii_alphanumeric n ≡ true → is_name_line l ≡ true
  line_named g h k = from_name true (all_letters n g h k)

module _ (l : List ℕ) where
  -- a name has 1 to 32 bytes
  pub name_sized : is_name_line l ≡ true → (3 ≤ length l) × (length l ≤ 34)
  unfolding is_name_line is_name
  name_sized e =
      let d = length-drop 2 l in
      let s = second_part (eqb (get_or l 1 0) 9) _ (second_part (eqb (get_or l 0 0) 78) _ e) in
      let a = leb-true 1 (length (name_in l)) (first_part _ _ s) in
      let b = leb-true (length (name_in l)) 32 (first_part _ _ (second_part (leb 1 (length (name_in l))) _ s)) in
      (omega (arith, a, d), omega (arith, b, d))

  pub no_name : is_name_line l ≡ false → name_of l ≡ 45 ∷ []
  unfolding name_of
  no_name e = rw e

  pub is_name_lem : is_name_line l ≡ true → name_of l ≡ name_in l
  unfolding name_of
  is_name_lem e = rw e

  pub name_most : length (name_of l) ≤ 32
  name_most = by (is_name_line l) refl
    where
      by : (t : Bool) → is_name_line l ≡ t → length (name_of l) ≤ 32
      by true e = omega (arith, ap length (is_name_lem e), length-drop 2 l, (name_sized e).1)
      by false e = omega (arith, ap length (no_name e))
