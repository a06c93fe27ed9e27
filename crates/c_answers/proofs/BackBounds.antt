-- The numbers that the reader's answers carry are lengths and numbers of lines: each fits a value of a reply.
-- Assumes nothing.
use mathlib.Core.List.{List, [], ◌∷◌}
use Prim.Native.Nat.{ℕ, ◌+◌, ◌≤◌, ◌<◌, ◌^◌}
use native.Mathlib.Omega.{arith}
use lib.ListN.{length}
use Rattle.instruction.specs.declared.mode.Mode.{Mode}
use Rattle.instruction.proofs.Carried.{Each}
use Rattle.text.specs.Cut.{lines}
use Rattle.read_back.specs.Line.{record_of}
use Rattle.read_back.specs.Order.{start, place_after}
use Rattle.read_back.specs.declared.place.Place.{Place}
use Rattle.read_back.specs.Back.{line_refusals, back_answer}
use Rattle.read_back.specs.Sheet.{Sheet, empty_sheet, sheet_with}
use Rattle.read_back.proofs.Counting.{lines_few, after_most}
use Rattle.c_answers.proofs.Fitting.{Fits, Holds, Short, this, judged}

-- a line's number is at most the number of all lines
lines_each : (mode : Mode) (n : ℕ) (ls : List (List ℕ)) (place : Place) (sheet : Sheet) → place.line + length ls ≤ 2 ^ 63
    → Each Fits (line_refusals mode n place sheet ls)
unfolding line_refusals place_after
lines_each mode n [] place sheet k = tt
lines_each mode n (l ∷ ls) place sheet k = (
  this 15 (omega arith),
  (
    this 16 (omega arith),
    lines_each mode n ls (place_after place (length l) (record_of l)) (sheet_with sheet l) (omega (arith, k, after_most place.line)),
  ),
)

pub back_fits : (mode : Mode) (text : List ℕ) (n : ℕ) (image marks : List ℕ) → length text < 2 ^ 63 → n < 2 ^ 63 → length marks < 2 ^ 63
    → Holds Short (back_answer mode text n image marks)
unfolding back_answer
back_fits mode text n image marks t h m =
    let few = lines_few text in
    judged Short _ (length (lines text))
    (this 1 h, (this 2 m, (this 11 h, lines_each mode n (lines text) start (empty_sheet n) (omega (arith, t, few))))) (λ e. omega (arith, t, few))
