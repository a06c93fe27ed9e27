-- What is printed at once is short.
-- Assumes nothing.
use Prim.Native.Nat.{ℕ, ◌+◌, ◌≤◌}
use native.Mathlib.Omega.{arith}
use mathlib.Core.Bool.{Bool, true, false, cond}
use mathlib.Core.List.{List, [], ◌++◌}
use mathlib.Core.Logic.{◌⊎◌, inl, inr}
use mathlib.Core.Path.{◌≡◌, refl, ap, ◌∙◌}
use lib.Dec.{eqb}
use lib.ListN.{length, length-append}
use Rattle.instruction.specs.Answer.{Answer, accepted, refused}
use Rattle.text.specs.Cut.{lines}
use Rattle.list_text.specs.Decimal.{lowest, width}
use Rattle.list_text.specs.Refusal.{number_line}
use Rattle.list_text.specs.Text.{first}
use Rattle.report_text.specs.ClaimsTerm.{PrintedFits}
use Rattle.report_text.specs.Name.{name_of}
use Rattle.report_text.specs.Image.{image_answer}
use Rattle.report_text.specs.Sums.{adding, all_fit, fitting}
use Rattle.report_text.specs.Report.{total_line}
use Rattle.report_text.specs.Term.{most_printed, held_in, text_in, image_out, image_term, completes, last_out, close_out}
use Rattle.report_text.specs.declared.figures.Figures.{Figures}
use Rattle.report_text.specs.declared.sums.Sums.{Sums}
use Rattle.report_text.specs.declared.term.Term.{Term}
use Rattle.report_text.proofs.ClaimsOnly.{only_thirteen_and_five}
use Rattle.report_text.proofs.Finishes.{out_on, out_over}
use Rattle.report_text.proofs.Lines.{ToldFits, figures_told, image_length, total_length}
use Rattle.report_text.proofs.Names.{name_most}

pub short : length (number_line 22) ≡ 5
unfolding number_line lowest width
short = refl

module _ (s : Sums) (i : List (List ℕ)) where
  told_fits : (a : Answer Figures) → image_answer i ≡ a → fitting (adding s a) ≡ true → ToldFits a
  unfolding all_fit
  told_fits (accepted f) e g = figures_told s f g
  told_fits (refused n vs) e g = by (only_thirteen_and_five i n vs e)
    where
      by : (n ≡ 13) ⊎ (n ≡ 5) → ToldFits (refused n vs)
      by (inl p) = rw p refl
      by (inr p) = rw p refl

  -- an image's line, or 22; and what may follow it at the end
  image_out_lem : (length (image_out s i) ≤ 159) × (length (last_out (image_term s i)) ≤ 170)
  image_out_lem = by (fitting (adding s (image_answer i))) refl
    where
      by : (x : Bool) → fitting (adding s (image_answer i)) ≡ x → (length (image_out s i) ≤ 159) × (length (last_out (image_term s i)) ≤ 170)
      by true e =
          let o = out_on s i e in
          let l = image_length (name_of (first i)) (image_answer i) (name_most (first i)) (told_fits (image_answer i) refl e) in
          let t = total_length (adding s (image_answer i)) e in
          let a = ap length o.0 in
          let b = ap (λ (x : Term). length (last_out x)) o.1 in
          (omega (arith, a, l), omega (arith, b, t))
      by false e =
          let o = out_over s i e in
          let a = ap length o.0 ∙ short in
          let b = ap (λ (x : Term). length (last_out x)) o.1 in
          (omega (arith, a), omega (arith, b))

pub printed_fits : PrintedFits
unfolding close_out
printed_fits s b f = (step (completes s.term b), close s.term.over (eqb (held_in s.term) 0))
  where
    step : (x : Bool) → length (cond x (image_out s.term.sums (lines (text_in s))) []) ≤ most_printed
    step true = let l = (image_out_lem s.term.sums (lines (text_in s))).0 in omega arith
    step false = omega arith

    both : length (image_out s.term.sums (lines (text_in s)) ++ last_out (image_term s.term.sums (lines (text_in s)))) ≤ most_printed
    both =
        let l = image_out_lem s.term.sums (lines (text_in s)) in
        let a = length-append (image_out s.term.sums (lines (text_in s))) (last_out (image_term s.term.sums (lines (text_in s)))) in
        omega (arith, a, l.0, l.1)

    close : (x y : Bool) → length
        (cond x [] (cond y (total_line s.term.sums)
        (image_out s.term.sums (lines (text_in s)) ++ last_out (image_term s.term.sums (lines (text_in s)))))) ≤ most_printed
    close true y = omega arith
    close false true = let l = total_length s.term.sums f in omega arith
    close false false = both
