-- How long a report can be.
-- Assumes nothing.
use Prim.Native.Nat.{ℕ, ◌+◌, ◌*◌, ◌≤◌}
use native.Mathlib.Omega.{arith}
use mathlib.Core.Bool.{Bool, true, false}
use mathlib.Core.List.{List, [], ◌∷◌}
use mathlib.Core.Path.{◌≡◌, refl, ap}
use lib.ListN.{length, length-append}
use Rattle.list_text.specs.Text.{first}
use Rattle.report_text.specs.Empty.{empty_lines}
use Rattle.report_text.specs.Images.{images_of}
use Rattle.report_text.specs.Image.{image_answer}
use Rattle.report_text.specs.Name.{name_of}
use Rattle.report_text.specs.Report.{image_line, reported, report_of}
use Rattle.report_text.specs.Sums.{adding, all_fit, fitting, no_sums}
use Rattle.report_text.specs.declared.sums.Sums.{Sums}
use Rattle.report_text.proofs.EmptyLines.{images_most}
use Rattle.report_text.proofs.Lines.{total_length}
use Rattle.report_text.proofs.PrintedFits.{short}
use Rattle.report_text.proofs.ReportFed.{reported_on, reported_over}
use Rattle.report_text.proofs.ShortLines.{line_few}

reported_most : (is : List (List (List ℕ))) (s : Sums) → fitting s ≡ true → length (reported s is) ≤ 69 * length is + 170
unfolding reported
reported_most [] s f = total_length s f
reported_most (i ∷ is) s f = by (fitting (adding s (image_answer i))) refl (reported_most is (adding s (image_answer i)))
  where
    by : (x : Bool) → fitting (adding s (image_answer i)) ≡ x
        → (fitting (adding s (image_answer i)) ≡ true → length (reported (adding s (image_answer i)) is) ≤ 69 * length is + 170)
        → length (reported s (i ∷ is)) ≤ 69 * length (i ∷ is) + 170
    by true e r =
        let n = length-append (image_line (name_of (first i)) (image_answer i)) (reported (adding s (image_answer i)) is) in
        omega (arith, ap length (reported_on s i is e), n, line_few i, r e)
    by false e r = omega (arith, ap length (reported_over s i is e), short)

pub report_most : (text : List ℕ) → length (report_of text) ≤ 69 * (empty_lines text + 1) + 170
unfolding report_of all_fit
report_most text = omega (arith, images_most text, reported_most (images_of text) no_sums refl)
