-- The line of entries, judged field by field.
-- Assumes nothing.
use mathlib.Core.Path.{◌≡◌, refl, sym, ap, ◌∙◌}
use mathlib.Core.Bool.{Bool, true, false, cond, ◌&&◌}
use mathlib.Core.List.{List, [], ◌∷◌}
use Prim.Native.Nat.{ℕ, suc, ◌+◌, ◌-◌, ◌≤◌, ◌<◌}
use native.Mathlib.Nat.{zero-add}
use native.Mathlib.Omega.{arith}
use lib.Dec.{leb, ltb, eqb}
use lib.ListN.{length, take, drop}
use borrow.Author.Tests.{le-leb, lt-leb, ltb-true, ltb-false}
use Rattle.std.specs.Prelude.{Option, Some, None}
use Rattle.instruction.proofs.Ands.{not_second}
use Rattle.text.specs.Cut.{before, cut, up_to, fields}
use Rattle.text.specs.Four.{is_four, all_four}
use Rattle.text.proofs.Cuts.{piece_inside, field_next, field_last}
use Rattle.list_text.specs.Entries.{is_entries, entries_line}

-- a field that does not end at the end of the line ends before it
pub before_end : (l : List ℕ) (at e : ℕ) → e ≡ at + length (up_to 9 (drop at l)) → at ≤ length l → (e ≡ length l → ⊥) → e < length l
before_end l at e p h k = let i = piece_inside 9 l at e p h in omega arith

pub at_next : {e n : ℕ} → e < n → e + 1 ≤ n
at_next h = omega arith

-- the fields of a line that is not empty, and of what is left of it
abbrev pub fields_of : List ℕ → List (List ℕ)
fields_of l = cut 9 ([] ∷ []) l

-- there is one
pub some_field : (l : List ℕ) → 1 ≤ length (fields_of l)
unfolding cut
some_field [] = omega arith
some_field (b ∷ l) = by (eqb b 9) (cut 9 ([] ∷ []) l)
  where
    many : (ls : List (List ℕ)) → 1 ≤ length (before b ls)
    many [] = omega arith
    many (m ∷ ls) = omega arith

    by : (x : Bool) (ls : List (List ℕ)) → 1 ≤ length (cond x ([] ∷ ls) (before b ls))
    by true ls = omega arith
    by false ls = many ls

-- what n entries and these fields make
unfoldable pub line_from : ℕ → List (List ℕ) → Option ℕ
line_from n fs = cond (all_four fs && leb (n + length fs) 256) (Some (n + length fs)) None

from_good : (n : ℕ) (f : List ℕ) (fs : List (List ℕ)) → is_four f ≡ true → line_from n (f ∷ fs) ≡ line_from (n + 1) fs
unfolding line_from all_four
from_good n f fs e = let q : n + suc (length fs) ≡ n + 1 + length fs = omega arith in rw (e, q)

from_bad : (n : ℕ) (f : List ℕ) (fs : List (List ℕ)) → is_four f ≡ false → line_from n (f ∷ fs) ≡ None
unfolding line_from all_four
from_bad n f fs e = rw e

from_full : (n : ℕ) (fs : List (List ℕ)) → 256 ≤ n → 1 ≤ length fs → line_from n fs ≡ None
unfolding line_from
from_full n fs h k = rw (lt-leb (n + length fs) 256 (omega arith), not_second (all_four fs) false refl)

from_none : (n : ℕ) → n ≤ 256 → line_from n [] ≡ Some n
unfolding line_from all_four
from_none n h = let q : n + 0 ≡ n = omega arith in rw (q, le-leb n 256 h)

pub empty_line : (l : List ℕ) → length l ≡ 0 → Some 0 ≡ entries_line l
unfolding entries_line is_entries all_four
empty_line [] h = refl
empty_line (b ∷ l) h = absurd (omega arith)

module _ (l : List ℕ) where
  pub fields_some : 0 < length l → fields l ≡ fields_of l
  fields_some h = by l h
    where
      by : (l : List ℕ) → 0 < length l → fields l ≡ fields_of l
      by [] h = absurd (omega arith)
      by (b ∷ l) h = refl

  -- what is left from a place on, with n entries before it, makes the line
  pub Left : ℕ → ℕ → Type 0
  Left at n = line_from n (fields_of (drop at l)) ≡ entries_line l

  pub left_start : (length l ≡ 0 → ⊥) → Left 0 0
  unfolding Left line_from entries_line is_entries
  left_start h = rw (fields_some (omega arith), zero-add)

  module _ (at n e : ℕ) (p : e ≡ at + length (up_to 9 (drop at l))) where
    abbrev field : List ℕ
    field = take (e - at) (drop at l)

    pub left_next : e < length l → is_four field ≡ true → Left at n → Left (e + 1) (n + 1)
    unfolding Left
    left_next h f s = sym (ap (line_from n) (field_next l at e p h) ∙ from_good n field _ f) ∙ s

    pub left_last : e ≡ length l → n < 256 → is_four field ≡ true → Left at n → Some (n + 1) ≡ entries_line l
    unfolding Left
    left_last h k f s =
        sym (ap (line_from n) (field_last l at e p h) ∙ from_good n field [] f ∙ from_none (n + 1) (omega arith)) ∙ s

    pub left_bad : at ≤ length l → is_four field ≡ false → Left at n → None ≡ entries_line l
    unfolding Left
    left_bad h f s = by (ltb e (length l)) refl
      where
        by : (x : Bool) → ltb e (length l) ≡ x → None ≡ entries_line l
        by true g = sym (ap (line_from n) (field_next l at e p (ltb-true e (length l) g)) ∙ from_bad n field _ f) ∙ s
        by false g =
            let i = piece_inside 9 l at e p h in
            let k = ltb-false e (length l) g in
            sym (ap (line_from n) (field_last l at e p (omega arith)) ∙ from_bad n field _ f) ∙ s

  pub left_full : (at n : ℕ) → 256 ≤ n → Left at n → None ≡ entries_line l
  unfolding Left
  left_full at n h s = sym (from_full n (fields_of (drop at l)) h (some_field (drop at l))) ∙ s
