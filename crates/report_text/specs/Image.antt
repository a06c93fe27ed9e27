-- What is reported of one image. Document 02, W14: its figures, or 13 for a malformed image, 5 as in a run; the number is printed alone.
-- Assumes nothing.
use Rattle.std.specs.Prelude.{ℕ, Bool, cond, not, ◌&&◌, List, [], ◌∷◌, eqb, length, get_or, Result, Ok, Err}
use Prim.Native.Char.{code}
use Rattle.instruction.specs.Answer.{Answer, accepted, refused, refuse, judge}
use Rattle.instruction.specs.declared.mode.Mode.TheVariants.{Unwrapped}
use Rattle.trace.specs.Run.{RunResult, run_answer, run_marks}
use Rattle.trace.specs.declared.run.Ran.{Ran}
use Rattle.trace.specs.declared.run.Ran.TheVariants.{Finished, Stopped}
use Rattle.list_text.specs.Bytes.{bytes_in_lines}
use Rattle.list_text.specs.Entries.{entries_in}
use Rattle.list_text.specs.Output.{lent_room}
use Rattle.list_text.specs.Text.{first, others, refusals_in}
use Rattle.report_text.specs.Figures.{figures}
use Rattle.report_text.specs.Name.{is_name_line}
use Rattle.report_text.specs.declared.figures.Figures.{Figures}
use Rattle.report_text.specs.declared.image.ImageError.{ImageError}
use Rattle.report_text.specs.declared.image.ImageError.TheVariants.{Malformed, Cut}

-- the number of a refusal
abbrev pub number_of : ImageError → ℕ
number_of Malformed = 13
number_of Cut = 5

abbrev pub reported_of : Result Figures ImageError → Answer Figures
reported_of (Ok f) = accepted f
reported_of (Err e) = refused (number_of e) []

-- of an inner function: how many steps a run took
abbrev pub steps_of : Ran → ℕ
steps_of (Finished c) = c.steps
steps_of (Stopped c) = c.steps

-- of a run that left these marks: the figures, or the number of its refusal
abbrev pub of_run : List ℕ → List ℕ → Answer RunResult → Answer Figures
of_run image m (accepted c) = accepted (figures image m c.steps)
of_run image m (refused n vs) = refused n []

-- an image run as the listing program runs it
unfoldable pub traced : List ℕ → List ℕ → Answer Figures
traced image entries =
    let room = lent_room image in
    of_run image (run_marks Unwrapped image room room entries [] (length image)) (run_answer Unwrapped image room room entries [] (length image))

-- line 1 with no entries
abbrev pub is_dash : List ℕ → Bool
is_dash l = eqb (length l) 1 && eqb (get_or l 0 0) (code "-")

-- the listing program's lines, where that line is empty
abbrev pub input_lines : List (List ℕ) → List (List ℕ)
input_lines [] = []
input_lines (l ∷ ls) = cond (is_dash l) ([] ∷ ls) (l ∷ ls)

-- what is reported of these lines: 13 where one of them is bad
abbrev pub of_lines : {A : Type 0} → Answer A → Answer Figures → Answer Figures
of_lines (accepted a) r = r
of_lines (refused n vs) r = refused n []

unfoldable pub input_answer : List (List ℕ) → Answer Figures
input_answer ls = of_lines (judge {A = ℕ} (refusals_in ls) 0) (traced (bytes_in_lines (others ls)) (entries_in (first ls)))

-- of an image's lines, the first of which names it
unfoldable pub image_answer : List (List ℕ) → Answer Figures
image_answer ls = cond (is_name_line (first ls)) (input_answer (input_lines (others ls))) (refused 13 [])
