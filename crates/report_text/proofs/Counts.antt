-- Counting: elements that pass a test, of a list and of positions upward.
-- Assumes nothing.
use mathlib.Core.Path.{◌≡◌, refl, sym, ap, ap₂, ◌∙◌}
use mathlib.Core.Bool.{Bool, true, false, cond, not, ◌||◌}
use mathlib.Core.List.{List, [], ◌∷◌, map}
use Prim.Native.Nat.{ℕ, zero, suc, ◌+◌, ◌-◌, ◌<◌, ◌≤◌}
use native.Mathlib.Numerals.{add-one}
use native.Mathlib.Nat.{zero-add}
use native.Mathlib.Omega.{arith}
use lib.Dec.{eqb, leb}
use lib.ListN.{length, get_or, drop, drop_of_length-le}
use lib.Seq.{drop-cons}
use mir.Val.{bool_byte}
use borrow.Author.Tests.{ne_eqb, le-leb}
use Rattle.reach.specs.Mark.{count}
use Rattle.reach.proofs.Count.{one, count_le}
use Rattle.views.specs.Positions.{up_from, some, kept, bit}
use Rattle.views.proofs.Ups.{up_length}
use Rattle.report_text.specs.Figures.{is_set}

-- what a test adds, in the machine's words
pub a_byte : (t : Bool) → bool_byte t ≡ one t
a_byte true = refl
a_byte false = refl

pub at_most_one : (t : Bool) → bool_byte t ≤ 1
at_most_one true = omega arith
at_most_one false = omega arith

-- those that are 0 and those that are not
pub set_or_not : (l : List ℕ) → count is_set l + count (eqb 0) l ≡ length l
unfolding count
set_or_not [] = refl
set_or_not (x ∷ l) = by x (set_or_not l)
  where
    by : (x : ℕ) → count is_set l + count (eqb 0) l ≡ length l → (one (is_set x) + count is_set l) + (one (eqb 0 x) + count (eqb 0) l) ≡ suc (length l)
    by zero r = omega arith
    by (suc x) r =
        let e = ap (λ (t : Bool). one (not t)) (ne_eqb (suc x) 0 (omega arith)) in
        let f = ap one (ne_eqb 0 (suc x) (omega arith)) in omega arith

-- a list counted from the front
module _ (f : ℕ → Bool) (l : List ℕ) where
  pub count_next : (i : ℕ) → i < length l → count f (drop i l) ≡ bool_byte (f (get_or l i 0)) + count f (drop (i + 1) l)
  unfolding count
  count_next i h = rw (add-one, drop-cons l i 0 h, a_byte (f (get_or l i 0)))

  pub count_end : (i : ℕ) → length l ≤ i → count f (drop i l) ≡ 0
  unfolding count
  count_end i h = rw (drop_of_length-le l h)

-- what a test says, kept as a byte
pub count_bits : (f : ℕ → Bool) (l : List ℕ) → count is_set (map (λ (p : ℕ). bit (f p)) l) ≡ count f l
unfolding count
count_bits f [] = refl
count_bits f (p ∷ l) = ap₂ (λ (x y : ℕ). x + y) (by (f p)) (count_bits f l)
  where
    by : (t : Bool) → one (is_set (bit t)) ≡ one t
    by true = refl
    by false = refl

pub count_kept : (f : ℕ → Bool) (l : List ℕ) → length (kept f l) ≡ count f l
unfolding count kept
count_kept f [] = refl
count_kept f (p ∷ l) = by (f p) (count_kept f l)
  where
    by : (t : Bool) → length (kept f l) ≡ count f l → length (cond t (p ∷ kept f l) (kept f l)) ≡ one t + count f l
    by true r = omega arith
    by false r = omega arith

pub count_some : (f : ℕ → Bool) (l : List ℕ) → some f l ≡ leb 1 (count f l)
unfolding count some
count_some f [] = refl
count_some f (p ∷ l) = by (f p) (count_some f l)
  where
    by : (t : Bool) → some f l ≡ leb 1 (count f l) → (t || some f l) ≡ leb 1 (one t + count f l)
    by true r = sym (le-leb 1 (1 + count f l) (omega arith))
    by false r = r ∙ ap (leb 1) (sym (zero-add (count f l)))

-- positions upward: none, one more, and no more than there are
module _ (f : ℕ → Bool) where
  pub count_none : (k q : ℕ) → ((p : ℕ) → q ≤ p → p < q + k → f p ≡ false) → count f (up_from k q) ≡ 0
  unfolding count up_from
  count_none zero q h = refl
  count_none (suc k) q h =
      let r = count_none k (suc q) (λ p g j. h p (omega arith) (omega arith)) in
      let e : one (f q) ≡ 0 = ap one (h q (omega arith) (omega arith)) in
      omega arith

  count_join : (k j q : ℕ) → count f (up_from (k + j) q) ≡ count f (up_from k q) + count f (up_from j (q + k))
  unfolding count up_from
  count_join zero j q =
      ap₂ (λ (i p : ℕ). count f (up_from i p)) (zero-add j) (let e : q ≡ q + 0 = omega arith in e) ∙ sym (zero-add (count f (up_from j (q + 0))))
  count_join (suc k) j q =
      let r = count_join k j (suc q) in
      let a : count f (up_from (suc k + j) q) ≡ one (f q) + count f (up_from (k + j) (suc q)) =
      ap (λ (i : ℕ). count f (up_from i q)) (let e : suc k + j ≡ suc (k + j) = omega arith in e) in
      let b : count f (up_from j (suc q + k)) ≡ count f (up_from j (q + suc k)) =
      ap (λ (p : ℕ). count f (up_from j p)) (let e : suc q + k ≡ q + suc k = omega arith in e) in
      omega arith

  pub count_snoc : (k : ℕ) → count f (up_from (k + 1) 0) ≡ count f (up_from k 0) + bool_byte (f k)
  unfolding count up_from
  count_snoc k =
      let e : count f (up_from 1 (0 + k)) ≡ bool_byte (f k) = by (f (0 + k)) ∙ ap (λ (p : ℕ). bool_byte (f p)) (zero-add k) in
      let r = count_join k 1 0 in omega arith
    where
      by : (t : Bool) → one t + 0 ≡ bool_byte t
      by true = refl
      by false = refl

  -- where no position from k on passes
  pub count_front : (k n : ℕ) → k ≤ n → ((p : ℕ) → k ≤ p → f p ≡ false) → count f (up_from n 0) ≡ count f (up_from k 0)
  count_front k n h g =
      let e : n ≡ k + (n - k) = omega arith in
      let z = count_none (n - k) (0 + k) (λ p i j. g p (omega arith)) in
      let r = count_join k (n - k) 0 in
      ap (λ (i : ℕ). count f (up_from i 0)) e ∙ (let s : count f (up_from (k + (n - k)) 0) ≡ count f (up_from k 0) = omega arith in s)

  pub count_most : (k q : ℕ) → count f (up_from k q) ≤ k
  count_most k q = omega (arith, count_le f (up_from k q), up_length k q)
