-- A good line of entries has no byte 10 in it.
-- Assumes nothing.
use mathlib.Core.Path.{◌≡◌, refl, ap}
use mathlib.Core.Bool.{Bool, true, false, cond}
use mathlib.Core.List.{List, [], ◌∷◌}
use Prim.Native.Nat.{ℕ}
use native.Mathlib.Omega.{arith}
use lib.Dec.{eqb, leb}
use lib.ListN.{length}
use borrow.Author.Tests.{eqb-true, ne_eqb}
use Rattle.text.specs.Cut.{before, cut, up_to, fields}
use Rattle.text.specs.Four.{is_four, all_four}
use Rattle.text.specs.Hex.{is_digit, all_hex}
use Rattle.instruction.proofs.Ands.{first_part, second_part}
use Rattle.list_text.specs.Entries.{is_entries}
use Rattle.read_back_laws.proofs.ByteDigits.{not_ten}

-- every piece is digits
abbrev All : List (List ℕ) → Type 0
All [] = Unit {0}
All (f ∷ fs) = (all_hex f ≡ true) × All fs

all_four_lem : (fs : List (List ℕ)) → all_four fs ≡ true → All fs
unfolding all_four is_four
all_four_lem [] e = tt
all_four_lem (f ∷ fs) e =
    (second_part (eqb (length f) 4) (all_hex f) (first_part (is_four f) (all_four fs) e), all_four_lem fs (second_part (is_four f) (all_four fs) e))

without : (b : ℕ) (fs : List (List ℕ)) → All (before b fs) → (is_digit b ≡ true) × All fs
unfolding all_hex
without b [] a = (first_part (is_digit b) true a.0, tt)
without b (f ∷ fs) a = (first_part (is_digit b) (all_hex f) a.0, (second_part (is_digit b) (all_hex f) a.0, a.1))

pieces_whole : (l : List ℕ) → All (cut 9 ([] ∷ []) l) → up_to 10 l ≡ l
unfolding cut up_to
pieces_whole [] a = refl
pieces_whole (b ∷ l) a = by (eqb b 9) refl a (pieces_whole l)
  where
    by : (x : Bool) → eqb b 9 ≡ x → All (cond x ([] ∷ cut 9 ([] ∷ []) l) (before b (cut 9 ([] ∷ []) l))) → (All (cut 9 ([] ∷ []) l) → up_to 10 l ≡ l)
        → cond (eqb b 10) [] (b ∷ up_to 10 l) ≡ b ∷ l
    by true e a r = let f = eqb-true b 9 e in rw (ne_eqb b 10 (λ g. omega arith)) (ap (λ (t : List ℕ). b ∷ t) (r a.1))
    by false e a r = let w = without b (cut 9 ([] ∷ []) l) a in rw (not_ten b w.0) (ap (λ (t : List ℕ). b ∷ t) (r w.1))

pub entry_line_lem : (e : List ℕ) → is_entries e ≡ true → up_to 10 e ≡ e
unfolding is_entries up_to
entry_line_lem [] g = refl
entry_line_lem (b ∷ l) g =
    let fs = fields (b ∷ l) in
    pieces_whole (b ∷ l) (all_four_lem fs (first_part (all_four fs) (leb (length fs) 256) g))
