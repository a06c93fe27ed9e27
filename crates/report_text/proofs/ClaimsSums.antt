-- The sums of a report are those over its lines, and 22 ends it where one would not fit: sums only grow.
-- Assumes nothing.
use mathlib.Core.Path.{◌≡◌, sym, ap, ◌∙◌}
use mathlib.Core.Bool.{Bool, true, false, cond}
use mathlib.Core.List.{List, [], ◌∷◌, ◌++◌, append_assoc}
use Prim.Native.Nat.{ℕ, ◌+◌, ◌≤◌, ◌<◌}
use native.Mathlib.Nat.{add_assoc, zero-add, add-zero}
use native.Mathlib.Omega.{arith}
use mir.Syntax.{w64}
use mir.Val.{Fits}
use lib.ListN.{get_or}
use Rattle.instruction.specs.Answer.{Answer, accepted, refused}
use Rattle.list_text.specs.Refusal.{number_line}
use Rattle.list_text.specs.Text.{first}
use Rattle.report_text.specs.ClaimsReport.{figure_in, refused_in, sum_over, sums_over, lines_over, SumsOfLines, SumRefused}
use Rattle.report_text.specs.Image.{image_answer}
use Rattle.report_text.specs.Name.{name_of}
use Rattle.report_text.specs.Report.{image_line, total_line, reported}
use Rattle.report_text.specs.Sums.{sum_list, no_sums, adding, fitting}
use Rattle.report_text.specs.declared.figures.Figures.{Figures}
use Rattle.report_text.specs.declared.sums.Sums.{Sums}
use Rattle.report_text.proofs.Adding.{most, fit_at, sums_fit}

-- each sum with each
abbrev plus : Sums → Sums → Sums
plus s t = record {
  length = s.length + t.length;
  steps = s.steps + t.steps;
  code = s.code + t.code;
  plain = s.plain + t.plain;
  shared = s.shared + t.shared;
  targets = s.targets + t.targets;
  accepted = s.accepted + t.accepted;
  refused = s.refused + t.refused;
}

-- those of one image
abbrev one : Answer Figures → Sums
one a = record {
  length = figure_in (λ (f : Figures). f.length) a;
  steps = figure_in (λ (f : Figures). f.steps) a;
  code = figure_in (λ (f : Figures). f.code) a;
  plain = figure_in (λ (f : Figures). f.plain) a;
  shared = figure_in (λ (f : Figures). f.shared) a;
  targets = figure_in (λ (f : Figures). f.targets) a;
  accepted = figure_in (λ (f : Figures). 1) a;
  refused = refused_in a;
}

plus_assoc : (s t u : Sums) → plus (plus s t) u ≡ plus s (plus t u)
plus_assoc s t u = λ i. record {
  length = add_assoc s.length t.length u.length i;
  steps = add_assoc s.steps t.steps u.steps i;
  code = add_assoc s.code t.code u.code i;
  plain = add_assoc s.plain t.plain u.plain i;
  shared = add_assoc s.shared t.shared u.shared i;
  targets = add_assoc s.targets t.targets u.targets i;
  accepted = add_assoc s.accepted t.accepted u.accepted i;
  refused = add_assoc s.refused t.refused u.refused i;
}

plus_none : (s : Sums) → plus s no_sums ≡ s
plus_none s = λ i. record {
  length = add-zero s.length i;
  steps = add-zero s.steps i;
  code = add-zero s.code i;
  plain = add-zero s.plain i;
  shared = add-zero s.shared i;
  targets = add-zero s.targets i;
  accepted = add-zero s.accepted i;
  refused = add-zero s.refused i;
}

none_plus : (s : Sums) → plus no_sums s ≡ s
none_plus s = λ i. record {
  length = zero-add s.length i;
  steps = zero-add s.steps i;
  code = zero-add s.code i;
  plain = zero-add s.plain i;
  shared = zero-add s.shared i;
  targets = zero-add s.targets i;
  accepted = zero-add s.accepted i;
  refused = zero-add s.refused i;
}

adding_one : (s : Sums) (a : Answer Figures) → adding s a ≡ plus s (one a)
adding_one s (accepted f) = λ i. record {
  length = s.length + f.length;
  steps = s.steps + f.steps;
  code = s.code + f.code;
  plain = s.plain + f.plain;
  shared = s.shared + f.shared;
  targets = s.targets + f.targets;
  accepted = s.accepted + 1;
  refused = sym (add-zero s.refused) i;
}
adding_one s (refused n vs) = λ i. record {
  length = sym (add-zero s.length) i;
  steps = sym (add-zero s.steps) i;
  code = sym (add-zero s.code) i;
  plain = sym (add-zero s.plain) i;
  shared = sym (add-zero s.shared) i;
  targets = sym (add-zero s.targets) i;
  accepted = sym (add-zero s.accepted) i;
  refused = s.refused + 1;
}

-- what fits with more added fits without
under : (a b : ℕ) → a + b ≤ most → Fits w64 a
under a b h = record { fits = omega arith }

fits_part : (s t : Sums) → fitting (plus s t) ≡ true → fitting s ≡ true
fits_part s t e =
    let h : (k : ℕ) → k < 8 → get_or (sum_list (plus s t)) k 0 ≤ most = λ k l. fit_at (sum_list (plus s t)) k l e in
    sums_fit s (under s.length t.length (h 0 (omega arith))) (under s.steps t.steps (h 1 (omega arith)))
    (under s.code t.code (h 2 (omega arith)))
    (under s.plain t.plain (h 3 (omega arith))) (under s.shared t.shared (h 4 (omega arith))) (under s.targets t.targets (h 5 (omega arith)))
    (under s.accepted t.accepted (h 6 (omega arith))) (under s.refused t.refused (h 7 (omega arith)))

-- the first of the images is added to the sums so far
added : (s : Sums) (i : List (List ℕ)) (is : List (List (List ℕ))) → plus s (sums_over (i ∷ is)) ≡ plus (adding s (image_answer i)) (sums_over is)
unfolding sum_over
added s i is = sym (ap (λ (t : Sums). plus t (sums_over is)) (adding_one s (image_answer i)) ∙ plus_assoc s (one (image_answer i)) (sums_over is))

last_added : (s : Sums) (i : List (List ℕ)) → plus s (sums_over (i ∷ [])) ≡ adding s (image_answer i)
unfolding sum_over
last_added s i = added s i [] ∙ plus_none (adding s (image_answer i))

either : (t : Bool) (x y : List ℕ) → (t ≡ true → cond t x y ≡ x) × (t ≡ false → cond t x y ≡ y)
either t x y = ((λ e. rw e), (λ e. rw e))

-- the report of the first image, where the sums with it fit
more : (s : Sums) (i : List (List ℕ)) (is : List (List (List ℕ))) → fitting (adding s (image_answer i)) ≡ true
    → reported s (i ∷ is) ≡ image_line (name_of (first i)) (image_answer i) ++ reported (adding s (image_answer i)) is
unfolding reported
more s i is e = (either (fitting (adding s (image_answer i))) _ _).0 e

-- and where they do not
ended : (s : Sums) (i : List (List ℕ)) (is : List (List (List ℕ))) → fitting (adding s (image_answer i)) ≡ false → reported s (i ∷ is) ≡ number_line 22
unfolding reported
ended s i is e = (either (fitting (adding s (image_answer i))) _ _).1 e

-- the line of the first image goes before
before_all : (s : Sums) (i : List (List ℕ)) (is : List (List (List ℕ))) (x y : List ℕ) → fitting (adding s (image_answer i)) ≡ true
    → reported (adding s (image_answer i)) is ≡ x ++ y → reported s (i ∷ is) ≡ image_line (name_of (first i)) (image_answer i) ++ x ++ y
before_all s i is x y e h = let l = image_line (name_of (first i)) (image_answer i) in more s i is e ∙ ap (λ (z : List ℕ). l ++ z) h ∙ sym (append_assoc l x y)

all_lines : (s : Sums) (is : List (List (List ℕ))) → fitting (plus s (sums_over is)) ≡ true → reported s is ≡ lines_over is ++ total_line (plus s (sums_over is))
unfolding sum_over lines_over reported
all_lines s [] e = ap total_line (sym (plus_none s))
all_lines s (i ∷ is) e =
    let f = sym (ap fitting (added s i is)) ∙ e in
    before_all s i is (lines_over is) _ (fits_part (adding s (image_answer i)) (sums_over is) f) (all_lines (adding s (image_answer i)) is f)
    ∙ ap (λ (t : Sums). image_line (name_of (first i)) (image_answer i) ++ lines_over is ++ total_line t) (sym (added s i is))

pub sums_of_lines : SumsOfLines
sums_of_lines is e = all_lines no_sums is (ap fitting (none_plus (sums_over is)) ∙ e) ∙ ap (λ (t : Sums). lines_over is ++ total_line t) (none_plus (sums_over is))

all_refused : (s : Sums) (before : List (List (List ℕ))) (i : List (List ℕ)) (after : List (List (List ℕ)))
    → fitting (plus s (sums_over before)) ≡ true → fitting (plus s (sums_over (before ++ i ∷ []))) ≡ false
    → reported s (before ++ i ∷ after) ≡ lines_over before ++ number_line 22
unfolding lines_over
all_refused s [] i after e f = ended s i after (sym (ap fitting (last_added s i)) ∙ f)
all_refused s (b ∷ bs) i after e f =
    let g = sym (ap fitting (added s b bs)) ∙ e in
    before_all s b (bs ++ i ∷ after) (lines_over bs) _ (fits_part (adding s (image_answer b)) (sums_over bs) g)
    (all_refused (adding s (image_answer b)) bs i after g (sym (ap fitting (added s b (bs ++ i ∷ []))) ∙ f))

pub sum_refused : SumRefused
sum_refused before i after e f =
    all_refused no_sums before i after (ap fitting (none_plus (sums_over before)) ∙ e) (ap fitting (none_plus (sums_over (before ++ i ∷ []))) ∙ f)
