-- The whole report of a term's text. Document 02, W14: a line for each image, tab-parted, and a last line `T` with the sums; 22, printed alone
-- and ending the report, if a sum would not fit.
-- Assumes nothing.
use Rattle.std.specs.Prelude.{ℕ, suc, min, ◌≤◌, ◌<◌, cond, List, [], ◌∷◌, ◌++◌, ◌≡◌, ltb, pos, length}
use Prim.Native.Char.{code}
use Rattle.std.proofs.lemmas.List.Edits.{sets}
use Rattle.instruction.specs.Answer.{Answer, accepted, refused, refuse, judge, after, laid}
use Rattle.list_text.specs.Decimal.{decimal}
use Rattle.list_text.specs.Refusal.{number_line}
use Rattle.list_text.specs.Text.{first}
use Rattle.report_text.specs.Images.{images_of}
use Rattle.report_text.specs.Name.{name_of}
use Rattle.report_text.specs.Image.{image_answer}
use Rattle.report_text.specs.Sums.{figure_list, sum_list, no_sums, adding, fitting}
use Rattle.report_text.specs.declared.figures.Figures.{Figures}
use Rattle.report_text.specs.declared.sums.Sums.{Sums}

-- each number in decimal, with a tab before it
unfoldable pub fields_of : List ℕ → List ℕ
fields_of [] = []
fields_of (n ∷ ns) = 9 ∷ decimal n ++ fields_of ns

-- the figures, or `R` and the number
abbrev pub told_of : Answer Figures → List ℕ
told_of (accepted f) = fields_of (figure_list f)
told_of (refused n vs) = 9 ∷ code "R" ∷ fields_of (n ∷ [])

-- the line of an image
unfoldable pub image_line : List ℕ → Answer Figures → List ℕ
image_line name a = name ++ told_of a ++ 10 ∷ []

-- the last line
unfoldable pub total_line : Sums → List ℕ
total_line s = code "T" ∷ fields_of (sum_list s) ++ 10 ∷ []

-- the report of these images, with the sums so far
unfoldable pub reported : Sums → List (List (List ℕ)) → List ℕ
reported s [] = total_line s
reported s (i ∷ is) =
    let a = image_answer i in
    cond (fitting (adding s a)) (image_line (name_of (first i)) a ++ reported (adding s a) is) (number_line 22)

unfoldable pub report_of : List ℕ → List ℕ
report_of text = reported no_sums (images_of text)

-- what is answered of a whole text and a room: how many bytes were written, or 11 with how many are needed. No number over 2^63 - 1 is
-- answered: a longer report, which no memory holds, is refused with that
abbrev pub highest : ℕ
highest = 9223372036854775807

unfoldable pub report_answer : List ℕ → List ℕ → Answer ℕ
report_answer text room =
    judge (refuse (ltb (min (length room) highest) (length (report_of text))) 11 (pos (min (length (report_of text)) highest) ∷ []) ∷ [])
    (length (report_of text))

unfoldable pub report_room : List ℕ → List ℕ → List ℕ
report_room text room = after (report_answer text room) (laid (report_of text) room) room

-- of an inner function: as much of the report is written as there is room for, and it is counted; a count at 2^63 stays there
pub record Filling (text room room' : List ℕ) (r : ℕ) : Type 0 where
  pub counted : r ≡ min (length (report_of text)) (suc highest)
  pub wrote : length (report_of text) ≤ highest → room' ≡ sets room 0 (report_of text)

-- of an inner function: how long the report is, or less where it surely fits
pub record Measured (text : List ℕ) (room r : ℕ) : Type 0 where
  pub enough : r ≤ min room highest → length (report_of text) ≤ min room highest
  pub exact : min room highest < r → r ≡ min (length (report_of text)) (suc highest)
