-- The lines of a report: how long they can be, and numbers put one after the other.
-- Assumes nothing.
use mathlib.Core.Path.{◌≡◌, refl, ◌∙◌}
use mathlib.Core.Bool.{true}
use mathlib.Core.List.{List, [], ◌∷◌, ◌++◌}
use Prim.Native.Nat.{ℕ, ◌+◌, ◌*◌, ◌≤◌, ◌<◌}
use native.Mathlib.Numerals.{add-one}
use native.Mathlib.Omega.{arith}
use lib.Dec.{leb}
use lib.ListN.{length, get_or, set, drop, length-append, drop_of_length-le}
use lib.Seq.{sets, drop-cons}
use borrow.Author.Tests.{leb-true, le-leb}
use Rattle.instruction.specs.Answer.{Answer, accepted, refused}
use Rattle.instruction.proofs.Ands.{first_part, second_part}
use Rattle.text.specs.Puts.{Puts}
use Rattle.list_text.specs.Decimal.{lowest, width, decimal}
use Rattle.list_text.proofs.Decimals.{lowest_length, decimal_length}
use Rattle.report_text.specs.Report.{fields_of, told_of, image_line, total_line}
use Rattle.report_text.specs.Sums.{figure_list, sum_list, adding, all_fit, fitting}
use Rattle.report_text.specs.declared.figures.Figures.{Figures}
use Rattle.report_text.specs.declared.sums.Sums.{Sums}
use Rattle.report_text.proofs.Adding.{most, fit_at}

-- the numbers that are told of an image fit
abbrev pub ToldFits : Answer Figures → Type 0
ToldFits (accepted f) = all_fit (figure_list f) ≡ true
ToldFits (refused n vs) = all_fit (n ∷ []) ≡ true

pub fields_length : (ns : List ℕ) → all_fit ns ≡ true → length (fields_of ns) ≤ 21 * length ns
unfolding fields_of all_fit
fields_length [] e = omega arith
fields_length (n ∷ ns) e =
    let d = decimal_length n (leb-true n most (first_part _ (all_fit ns) e)) in
    let r = fields_length ns (second_part (leb n most) (all_fit ns) e) in
    omega (arith, length-append (decimal n) (fields_of ns), d, r)

-- with sums that fit, the figures do
pub figures_told : (s : Sums) (f : Figures) → fitting (adding s (accepted f)) ≡ true → ToldFits (accepted f)
unfolding all_fit
figures_told s f e =
    let h : (k : ℕ) → k < 8 → get_or (sum_list (adding s (accepted f))) k 0 ≤ most = λ k l. fit_at (sum_list (adding s (accepted f))) k l e in
    rw (
      part s.length f.length (h 0 (omega arith)),
      part s.steps f.steps (h 1 (omega arith)),
      part s.code f.code (h 2 (omega arith)),
      part s.plain f.plain (h 3 (omega arith)),
      part s.shared f.shared (h 4 (omega arith)),
      part s.targets f.targets (h 5 (omega arith)),
    )
  where
    part : (a b : ℕ) → a + b ≤ most → leb b most ≡ true
    part a b h = le-leb b most (omega arith)

-- what is told of an image, its line and the last line
told_length : (a : Answer Figures) → ToldFits a → length (told_of a) ≤ 126
unfolding fields_of
told_length (accepted f) e = fields_length (figure_list f) e
told_length (refused n vs) e = let d = fields_length (n ∷ []) e in omega (arith, d)

pub image_length : (name : List ℕ) (a : Answer Figures) → length name ≤ 32 → ToldFits a → length (image_line name a) ≤ 159
unfolding image_line
image_length name a h e = omega (arith, length-append (name ++ told_of a) (10 ∷ []), length-append name (told_of a), told_length a e, h)

pub total_length : (s : Sums) → fitting s ≡ true → length (total_line s) ≤ 170
unfolding total_line
total_length s e = omega (arith, length-append (fields_of (sum_list s)) (10 ∷ []), fields_length (sum_list s) e)

-- two bytes
pub two_put : (a b at : ℕ) (o : List ℕ) → Puts (a ∷ b ∷ []) at o (set (set o at a) (at + 1) b) (at + 2)
two_put a b at o = record { next = refl; wrote = rw add-one }

-- a number with its tab, and those that follow it
pub field_put : (n k to : ℕ) (o m : List ℕ) → k ≡ width n n → m ≡ sets (set o to 9) (to + 1) (lowest k n) → Puts (9 ∷ decimal n) to o m (to + (k + 1))
field_put n k to o m a e = rw (← a) (record { next = omega (arith, lowest_length k n); wrote = e ∙ rw add-one })

module _ (ns : List ℕ) (i : ℕ) where
  pub next_field : i < length ns → fields_of (drop i ns) ≡ (9 ∷ decimal (get_or ns i 0)) ++ fields_of (drop (i + 1) ns)
  unfolding fields_of
  next_field h = rw (add-one, drop-cons ns i 0 h)

  pub no_field : length ns ≤ i → fields_of (drop i ns) ≡ []
  unfolding fields_of
  no_field h = rw (drop_of_length-le ns h)
