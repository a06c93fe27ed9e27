-- What is claimed of a report. Document 02, W14.
-- Assumes nothing.
use Rattle.std.specs.Prelude.{ℕ, ◌+◌, ◌≤◌, Bool, true, false, List, [], ◌∷◌, ◌++◌, ◌⊎◌, ◌≡◌, ℤ, length, Result}
use Rattle.instruction.specs.Answer.{Answer, accepted, refused, Apart}
use Rattle.list_text.specs.Refusal.{number_line}
use Rattle.list_text.specs.Text.{first}
use Rattle.report_text.specs.Figures.{code_bytes, data_bytes}
use Rattle.report_text.specs.Name.{name_of}
use Rattle.report_text.specs.Image.{reported_of, image_answer}
use Rattle.report_text.specs.Sums.{no_sums, adding, fitting}
use Rattle.report_text.specs.Term.{taken_of, used_of, term_of}
use Rattle.report_text.specs.Report.{image_line, total_line, reported}
use Rattle.report_text.specs.declared.figures.Figures.{Figures}
use Rattle.report_text.specs.declared.sums.Sums.{Sums}
use Rattle.report_text.specs.declared.term.Term.{Term}
use Rattle.report_text.specs.declared.term.Taken.{Taken}
use Rattle.views.specs.declared.view.ViewError.{ViewError}

-- the number and values of the answers tell all cases and all values apart
abbrev pub ReportedApart : Type 0
ReportedApart = Apart reported_of

-- and what one call took, how many bytes it used and the record after it leave one answer
abbrev pub TakenApart : Type 0
TakenApart = (t : Term) (r s : Result Taken ViewError) → taken_of r ≡ taken_of s → used_of r ≡ used_of s → term_of r t ≡ term_of s t → r ≡ s

-- code and data bytes add up to the length
abbrev pub CodeAndData : Type 0
CodeAndData = (image m : List ℕ) → code_bytes image m + data_bytes image m ≡ length image

-- nothing is refused but a malformed image and an instruction cut off; 22 is no answer of an image
abbrev pub OnlyThirteenAndFive : Type 0
OnlyThirteenAndFive = (i : List (List ℕ)) (n : ℕ) (vs : List ℤ) → image_answer i ≡ refused n vs → (n ≡ 13) ⊎ (n ≡ 5)

-- a figure summed over the accepted images, and how many are accepted and refused
abbrev pub figure_in : (Figures → ℕ) → Answer Figures → ℕ
figure_in f (accepted a) = f a
figure_in f (refused n vs) = 0

abbrev pub refused_in : Answer Figures → ℕ
refused_in (accepted a) = 0
refused_in (refused n vs) = 1

unfoldable pub sum_over : (Answer Figures → ℕ) → List (List (List ℕ)) → ℕ
sum_over f [] = 0
sum_over f (i ∷ is) = f (image_answer i) + sum_over f is

abbrev pub sums_over : List (List (List ℕ)) → Sums
sums_over is = record {
  length = sum_over (figure_in (λ (f : Figures). f.length)) is;
  steps = sum_over (figure_in (λ (f : Figures). f.steps)) is;
  code = sum_over (figure_in (λ (f : Figures). f.code)) is;
  plain = sum_over (figure_in (λ (f : Figures). f.plain)) is;
  shared = sum_over (figure_in (λ (f : Figures). f.shared)) is;
  targets = sum_over (figure_in (λ (f : Figures). f.targets)) is;
  accepted = sum_over (figure_in (λ (f : Figures). 1)) is;
  refused = sum_over refused_in is;
}

-- the lines of these images
unfoldable pub lines_over : List (List (List ℕ)) → List ℕ
lines_over [] = []
lines_over (i ∷ is) = image_line (name_of (first i)) (image_answer i) ++ lines_over is

-- where every sum fits, each image has its line, and `T` has the sums of the lines
abbrev pub SumsOfLines : Type 0
SumsOfLines = (is : List (List (List ℕ))) → fitting (sums_over is) ≡ true → reported no_sums is ≡ lines_over is ++ total_line (sums_over is)

-- 22 is printed exactly if a sum would not fit: of the first image with which one does not fit, and nothing after it
abbrev pub SumRefused : Type 0
SumRefused = (before : List (List (List ℕ))) (i : List (List ℕ)) (after : List (List (List ℕ))) → fitting (sums_over before) ≡ true
    → fitting (sums_over (before ++ i ∷ [])) ≡ false → reported no_sums (before ++ i ∷ after) ≡ lines_over before ++ number_line 22
