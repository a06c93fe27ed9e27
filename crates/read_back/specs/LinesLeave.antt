-- Of an inner function: what the lines of a text leave of an empty image of n bytes and an empty table, where none is bad.
-- Assumes nothing.
use Rattle.std.specs.Prelude.{ℕ, List, ◌≡◌, length}
use Rattle.instruction.specs.Answer.{Answer, accepted, judge}
use Rattle.instruction.specs.declared.mode.Mode.{Mode}
use Rattle.text.specs.Cut.{lines}
use Rattle.read_back.specs.Back.{line_refusals, sheet_of}
use Rattle.read_back.specs.Noted.{marks_in}
use Rattle.read_back.specs.Order.{start}
use Rattle.read_back.specs.Sheet.{empty_sheet, image_on}

pub record LinesLeave (mode : Mode) (text : List ℕ) (n : ℕ) (new told : List ℕ) (a : Answer ℕ) : Type 0 where
  pub answer : a ≡ judge (line_refusals mode n start (empty_sheet n) (lines text)) (length (lines text))
  pub image : (k : ℕ) → a ≡ accepted k → new ≡ image_on (sheet_of text n)
  pub marks : (k : ℕ) → a ≡ accepted k → marks_in told n ≡ (sheet_of text n).marks
  pub wide : length told ≡ 1024
