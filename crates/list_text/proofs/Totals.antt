-- How long pieces are, with the byte that ends each.
-- Assumes nothing.
use mathlib.Core.Path.{◌≡◌, refl}
use mathlib.Core.Bool.{Bool, true, false, cond}
use mathlib.Core.List.{List, [], ◌∷◌}
use Prim.Native.Nat.{ℕ, suc, ◌+◌, ◌*◌, ◌≤◌}
use native.Mathlib.Omega.{arith}
use lib.Dec.{eqb, leb}
use lib.ListN.{length}
use borrow.Author.Tests.{leb-true}
use Rattle.text.specs.Cut.{before, cut, fields}
use Rattle.text.specs.Four.{is_four, all_four}
use Rattle.instruction.proofs.Ands.{first_part, second_part}
use Rattle.text.proofs.Fours.{four_parts}
use Rattle.list_text.specs.Entries.{is_entries}
use Rattle.list_text.specs.Text.{first, others}

abbrev pub total : List (List ℕ) → ℕ
total [] = 0
total (l ∷ ls) = length l + 1 + total ls

one_more_lem : (b : ℕ) (ls : List (List ℕ)) → total ls + 1 ≤ total (before b ls)
one_more_lem b [] = omega arith
one_more_lem b (l ∷ ls) = omega arith

-- no byte is lost by cutting
pub all_there : (s : ℕ) (last : List (List ℕ)) (t : List ℕ) → length t + total last ≤ total (cut s last t)
unfolding cut
all_there s last [] = omega arith
all_there s last (b ∷ t) = by (all_there s last t) (eqb b s) (one_more_lem b (cut s last t))
  where
    by : length t + total last ≤ total (cut s last t) → (x : Bool) → total (cut s last t) + 1 ≤ total (before b (cut s last t))
        → suc (length t) + total last ≤ total (cond x ([] ∷ cut s last t) (before b (cut s last t)))
    by h true k = omega arith
    by h false k = omega arith

pub with_first : (ls : List (List ℕ)) → total ls ≤ length (first ls) + 1 + total (others ls)
with_first [] = omega arith
with_first (l ∷ ls) = omega arith

fives : (fs : List (List ℕ)) → all_four fs ≡ true → total fs ≡ length fs * 5
unfolding all_four
fives [] e = refl
fives (f ∷ fs) e =
    let h = (four_parts f (first_part (is_four f) (all_four fs) e)).0 in
    let k = fives fs (second_part (is_four f) (all_four fs) e) in omega arith

-- the longest line of entries
pub longest_first : (l : List ℕ) → is_entries l ≡ true → (length l ≤ 1279) × (length (fields l) ≤ 256)
unfolding is_entries
longest_first [] e = (omega arith, omega arith)
longest_first (b ∷ l) e =
    let fs = cut 9 ([] ∷ []) (b ∷ l) in
    let h = fives fs (first_part (all_four fs) (leb (length fs) 256) e) in
    let k = leb-true (length fs) 256 (second_part (all_four fs) (leb (length fs) 256) e) in
    let m = all_there 9 ([] ∷ []) (b ∷ l) in (omega arith, k)
