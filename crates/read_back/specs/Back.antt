-- The whole listing read back. Document 02, W1: refusals 1, 2 and 11, then the first bad line decides: 15, malformed or out of order; 16,
-- `I` or `D` reaching past the length; both with the line's number. Nothing is written on any.
-- Assumes nothing.
use Rattle.std.specs.Prelude.{ℕ, Bool, not, ◌&&◌, Result, Ok, Err, List, [], ◌∷◌, ltb, pos, length}
use Rattle.instruction.specs.Answer.{Answer, accepted, refused, Refusal, refuse, judge, after, laid}
use Rattle.instruction.specs.declared.mode.Mode.{Mode}
use Rattle.marks.specs.Refusals.{size_refused}
use Rattle.text.specs.Cut.{lines}
use Rattle.read_back.specs.Line.{position_on, record_of}
use Rattle.read_back.specs.Order.{start, place_after}
use Rattle.read_back.specs.Read.{is_good}
use Rattle.read_back.specs.Sheet.{Sheet, empty_sheet, listed_on, agree, reach, sheet_with, image_on}
use Rattle.read_back.specs.declared.back.RestoreError.{RestoreError}
use Rattle.read_back.specs.declared.back.RestoreError.TheVariants.{Size, NoRoom, Malformed, PastEnd}
use Rattle.read_back.specs.declared.place.Place.{Place}

-- the number and values of each refusal, and of each answer
abbrev pub restore_refused : {A : Type 0} → RestoreError → Answer A
restore_refused (Size e) = size_refused e
restore_refused (NoRoom n) = refused 11 (pos n ∷ [])
restore_refused (Malformed k) = refused 15 (pos k ∷ [])
restore_refused (PastEnd k) = refused 16 (pos k ∷ [])

abbrev pub restored_of : Result ℕ RestoreError → Answer ℕ
restored_of (Ok k) = accepted k
restored_of (Err e) = restore_refused e

-- the line after a place, over what was read before it
abbrev pub is_fit : Mode → Place → Sheet → List ℕ → Bool
is_fit mode place sheet l = is_good mode place l && agree sheet.cells (position_on l) (listed_on l)

-- the lines from a place on, of an image of n bytes
unfoldable pub line_refusals : Mode → ℕ → Place → Sheet → List (List ℕ) → List Refusal
line_refusals mode n place sheet [] = []
line_refusals mode n place sheet (l ∷ ls) =
    refuse (not (is_fit mode place sheet l)) 15 (pos place.line ∷ [])
    ∷ refuse (reach n (position_on l) (listed_on l)) 16 (pos place.line ∷ [])
    ∷ line_refusals mode n (place_after place (length l) (record_of l)) (sheet_with sheet l) ls

-- what they leave
unfoldable pub sheet_after : Sheet → List (List ℕ) → Sheet
sheet_after sheet [] = sheet
sheet_after sheet (l ∷ ls) = sheet_after (sheet_with sheet l) ls

abbrev pub sheet_of : List ℕ → ℕ → Sheet
sheet_of text n = sheet_after (empty_sheet n) (lines text)

-- how many lines were read, or what is refused
unfoldable pub back_answer : Mode → List ℕ → ℕ → List ℕ → List ℕ → Answer ℕ
back_answer mode text n image marks =
    judge
    (refuse (ltb 65536 n) 1 (pos n ∷ [])
    ∷ refuse (ltb (length marks) n) 2 (pos (length marks) ∷ [])
    ∷ refuse (ltb (length image) n) 11 (pos n ∷ [])
    ∷ line_refusals mode n start (empty_sheet n) (lines text))
    (length (lines text))

-- what was read is laid over the beginning of a room; a refusal changes nothing
unfoldable pub back_image : Mode → List ℕ → ℕ → List ℕ → List ℕ → List ℕ
back_image mode text n image marks = after (back_answer mode text n image marks) (laid (image_on (sheet_of text n)) image) image

unfoldable pub back_marks : Mode → List ℕ → ℕ → List ℕ → List ℕ → List ℕ
back_marks mode text n image marks = after (back_answer mode text n image marks) (laid (sheet_of text n).marks marks) marks
