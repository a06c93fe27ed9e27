-- What is printed fits the room that the unlisting program lends.
-- Assumes nothing.
use mathlib.Core.Path.{◌≡◌, refl, sym}
use mathlib.Core.Bool.{Bool, true, false, cond}
use mathlib.Core.List.{List, [], ◌∷◌}
use Prim.Native.Nat.{ℕ, zero, suc, ◌+◌, ◌/◌, ◌≤◌, ◌<◌, ◌^◌}
use native.Mathlib.Nat.{pow-suc}
use native.Mathlib.Omega.{arith}
use lib.Dec.{ltb}
use borrow.Author.Tests.{lt-ltb}
use lib.IntN.{ℤ, pos}
use lib.ListN.{length, length-replicate}
use Rattle.instruction.specs.Answer.{Answer, accepted, refused, refuse}
use Rattle.text.specs.Cut.{lines}
use Rattle.read_back.specs.Back.{line_refusals, back_answer, back_image}
use Rattle.read_back.specs.Line.{record_of}
use Rattle.read_back.specs.Order.{start, place_after}
use Rattle.read_back.specs.Sheet.{Sheet, empty_sheet, sheet_with}
use Rattle.read_back.specs.declared.place.Place.{Place}
use Rattle.read_back.proofs.BackLengths.{back_length}
use Rattle.read_back.proofs.Counting.{lines_few, after_most, accepted_short}
use Rattle.instruction.proofs.Carried.{Each, carries}
use Rattle.instruction.specs.declared.mode.Mode.{Mode}
use Rattle.instruction.specs.declared.mode.Mode.TheVariants.{Unwrapped}
use Rattle.list_text.specs.Decimal.{width}
use Rattle.unlist_text.specs.Unlisted.{value_of, empty_room, printed, unlisted_of}
use Rattle.unlist_text.proofs.Lines.{image_length}
use Rattle.list_text.proofs.RefusalPutting.{value_length}
use Rattle.read_back_laws.specs.ClaimsUnlisted.{UnlistedFits}

-- a number below a power of ten has no more digits than that
width_below : (k j n : ℕ) → n < 10 ^ suc k → width j n ≤ suc k
unfolding width
width_below k zero n h = omega arith
width_below zero (suc j) n h = rw (lt-ltb n 10 h) (omega arith)
width_below (suc k) (suc j) n h = by (ltb n 10) (width_below k j (n / 10) less)
  where
    less : n / 10 < 10 ^ suc k
    less = omega (arith, h, pow-suc 10 (suc k))

    by : (t : Bool) → width j (n / 10) ≤ suc k → cond t 1 (suc (width j (n / 10))) ≤ suc (suc k)
    by true g = omega arith
    by false g = omega arith

-- each line's number is at most one more than that of the line before
after_line : (place : Place) (n : ℕ) (line : List ℕ) → (place_after place n (record_of line)).line ≤ suc place.line
unfolding place_after
after_line place n line = after_most place.line

-- the number and the value of each refusal are machine words
abbrev Word : ℕ → List ℤ → Type 0
Word r vs = (r < 2 ^ 64) × (value_of vs < 2 ^ 64)

lines_each : (mode : Mode) (n : ℕ) (place : Place) (sheet : Sheet) (ls : List (List ℕ)) → place.line + length ls ≤ 2 ^ 63
    → Each Word (line_refusals mode n place sheet ls)
unfolding line_refusals
lines_each mode n place sheet [] h = tt
lines_each mode n place sheet (l ∷ ls) h = (
  (omega arith, omega arith),
  (
    (omega arith, omega arith),
    lines_each mode n (place_after place (length l) (record_of l)) (sheet_with sheet l) ls
        (omega (arith, h, after_line place (length l) l)),
  ),
)

module _ (mode : Mode) (text : List ℕ) (n : ℕ) (t : length text < 2 ^ 63) (h : n < 2 ^ 63) where
  abbrev room : List ℕ
  room = empty_room n

  long : length room ≡ n
  long = length-replicate n 0

  each : Each Word (refuse (ltb 65536 n) 1 (pos n ∷ []) ∷ refuse (ltb (length room) n) 2 (pos (length room) ∷ []) ∷ refuse (ltb (length room) n) 11 (pos n ∷ [])
      ∷ line_refusals mode n start (empty_sheet n) (lines text))
  each =
      let z = long in (
        (omega arith, omega arith),
        (
          (omega arith, omega (arith, z)),
          ((omega arith, omega arith), lines_each mode n start (empty_sheet n) (lines text) (omega (arith, t, lines_few text))),
        ),
      )

  fits : (a : Answer ℕ) → back_answer mode text n room room ≡ a → length (printed (back_image mode text n room room) a) ≤ 133120
  unfolding back_answer
  fits (accepted k) e =
      let image = back_image mode text n room room in
      omega (arith, image_length image, back_length mode text n room room (omega (arith, long)), long, accepted_short mode text n room room k e)
  fits (refused r vs) e =
      let g = carries Word _ _ r vs each (sym e) in
      omega (
        arith,
        value_length r (value_of vs) (width r r) (width (value_of vs) (value_of vs)) refl refl,
        width_below 19 r r (omega (arith, g.0)),
        width_below 19 (value_of vs) (value_of vs) (omega (arith, g.1)),
      )

pub unlisted_fits : UnlistedFits
unfolding unlisted_of
unlisted_fits text n t h = let room = empty_room n in fits Unwrapped text n t h (back_answer Unwrapped text n room room) refl
