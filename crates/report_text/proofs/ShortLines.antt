-- The line of an image is short: an image has at most 16,384 bytes, so its figures have five digits at most.
-- Assumes nothing.
use Prim.Native.Nat.{ℕ, suc, ◌+◌, ◌*◌, ◌/◌, ◌≤◌}
use native.Mathlib.Omega.{arith}
use mathlib.Core.Bool.{Bool, true, false, cond}
use mathlib.Core.List.{List, [], ◌∷◌, ◌++◌}
use mathlib.Core.Logic.{◌⊎◌, ⊎_elim}
use mathlib.Core.Path.{◌≡◌, refl, subst}
use lib.ListN.{length, length-append}
use Rattle.instruction.specs.Answer.{Answer, accepted, refused, judge}
use Rattle.instruction.specs.declared.mode.Mode.TheVariants.{Unwrapped}
use Rattle.instruction.proofs.Accepting.{differ}
use Rattle.reach.proofs.Cases.{lt_or_le}
use Rattle.reach.proofs.Count.{count_le}
use Rattle.trace.specs.Run.{RunResult, run_answer, run_marks}
use Rattle.trace_laws.proofs.ClaimsCeilingsRun.{run_ceilings}
use Rattle.views.specs.Labels.{labels_of}
use Rattle.views.proofs.Labelling.{labels_length}
use Rattle.list_text.specs.Bytes.{bytes_in_lines}
use Rattle.list_text.specs.Decimal.{width, decimal}
use Rattle.list_text.specs.Entries.{entries_in}
use Rattle.list_text.specs.Output.{lent_room}
use Rattle.list_text.specs.Text.{first, others, refusals_in}
use Rattle.list_text.proofs.Decimals.{lowest_length, width_one, width_more, width_most}
use Rattle.report_text.specs.Figures.{is_set, is_shared, shared_bytes, target_marks, figures}
use Rattle.report_text.specs.Image.{of_run, traced, input_lines, of_lines, input_answer, image_answer}
use Rattle.report_text.specs.Name.{is_name_line, name_of}
use Rattle.report_text.specs.Report.{fields_of, told_of, image_line}
use Rattle.report_text.specs.Sums.{figure_list}
use Rattle.report_text.specs.declared.figures.Figures.{Figures}
use Rattle.report_text.proofs.ClaimsOnly.{few, only_thirteen_and_five}
use Rattle.report_text.proofs.CodeAndData.{code_and_data}
use Rattle.report_text.proofs.Counts.{count_most}
use Rattle.report_text.proofs.Names.{name_most}

-- none of these is over 16,384
abbrev Few : List ℕ → Type 0
Few [] = Unit {0}
Few (n ∷ ns) = (n ≤ 16384) × Few ns

-- one digit more than a tenth has, at most
one_more_lem : (n : ℕ) → width n n ≤ suc (width (n / 10) (n / 10))
one_more_lem n = ⊎_elim (λ h. let e = width_one n h in omega arith) (λ h. let e = width_more n h in omega arith) (lt_or_le n 10)

five_digits : (n : ℕ) → n ≤ 16384 → length (decimal n) ≤ 5
five_digits n h =
    let d = lowest_length (width n n) n in
    let l = width_most (n / 10 / 10 / 10) (n / 10 / 10 / 10) in
    omega (arith, d, one_more_lem n, one_more_lem (n / 10), one_more_lem (n / 10 / 10), l)

fields_few : (ns : List ℕ) → Few ns → length (fields_of ns) ≤ 6 * length ns
unfolding fields_of
fields_few [] h = omega arith
fields_few (n ∷ ns) h = omega (arith, length-append (decimal n) (fields_of ns), five_digits n h.0, fields_few ns h.1)

figures_few : (image m : List ℕ) (steps : ℕ) → length image ≤ 16384 → steps ≤ length image → Few (figure_list (figures image m steps))
unfolding figures shared_bytes target_marks
figures_few image m steps h s =
    let c = code_and_data image m in
    let a : shared_bytes image m ≤ 16384 = omega (arith, count_most (is_shared image m) (length image) 0) in
    let b : target_marks image m ≤ 16384 = omega (arith, count_le is_set (labels_of Unwrapped image m), labels_length Unwrapped image m) in
    (h, (omega arith, (omega arith, (omega arith, (a, (b, tt))))))

-- the figures of an image that is accepted
traced_few : (image entries : List ℕ) (f : Figures) → length image ≤ 16384 → traced image entries ≡ accepted f → Few (figure_list f)
unfolding traced
traced_few image entries f h e = by answer refl e
  where
    answer : Answer RunResult
    answer = run_answer Unwrapped image (lent_room image) (lent_room image) entries [] (length image)

    m : List ℕ
    m = run_marks Unwrapped image (lent_room image) (lent_room image) entries [] (length image)

    by : (r : Answer RunResult) → answer ≡ r → of_run image m r ≡ accepted f → Few (figure_list f)
    by (accepted c) g k =
        let q : figures image m c.steps ≡ f = cc in
        let s = (run_ceilings Unwrapped image (lent_room image) (lent_room image) entries [] (length image) c g).in_image in
        subst (λ (x : Figures). Few (figure_list x)) q (figures_few image m c.steps h s)
    by (refused n vs) g k = absurd (differ k)

input_few : (ls : List (List ℕ)) (f : Figures) → input_answer ls ≡ accepted f → Few (figure_list f)
unfolding input_answer
input_few ls f e = by (judge {A = ℕ} (refusals_in ls) 0) refl e
  where
    by : (r : Answer ℕ) → judge {A = ℕ} (refusals_in ls) 0 ≡ r → of_lines r (traced (bytes_in_lines (others ls)) (entries_in (first ls))) ≡ accepted f
        → Few (figure_list f)
    by (accepted a) g k = traced_few (bytes_in_lines (others ls)) (entries_in (first ls)) f (few ls a g) k
    by (refused n vs) g k = absurd (differ k)

module _ (i : List (List ℕ)) where
  image_few : (f : Figures) → image_answer i ≡ accepted f → Few (figure_list f)
  unfolding image_answer
  image_few f e = by (is_name_line (first i)) e
    where
      by : (t : Bool) → cond t (input_answer (input_lines (others i))) (refused 13 []) ≡ accepted f → Few (figure_list f)
      by true k = input_few (input_lines (others i)) f k
      by false k = absurd (differ k)

  told_few : (a : Answer Figures) → image_answer i ≡ a → length (told_of a) ≤ 36
  told_few (accepted f) e = fields_few (figure_list f) (image_few f e)
  told_few (refused n vs) e =
      let l : n ≤ 16384 = ⊎_elim (λ (p : n ≡ 13). omega arith) (λ (p : n ≡ 5). omega arith) (only_thirteen_and_five i n vs e) in
      omega (arith, fields_few (n ∷ []) (l, tt))

  pub line_few : length (image_line (name_of (first i)) (image_answer i)) ≤ 69
  unfolding image_line
  line_few =
      let name = name_of (first i) in
      let told = told_of (image_answer i) in
      omega (arith, length-append (name ++ told) (10 ∷ []), length-append name told, told_few (image_answer i) refl, name_most (first i))
