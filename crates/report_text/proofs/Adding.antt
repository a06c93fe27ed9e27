-- Sums: each test of the code is one of the definition, and what fits is told of each sum.
-- Assumes nothing.
use mathlib.Core.Path.{◌≡◌, refl, sym, ◌∙◌}
use mathlib.Core.Bool.{Bool, true, false, not}
use mathlib.Core.List.{List, [], ◌∷◌}
use Prim.Native.Nat.{ℕ, zero, suc, ◌+◌, ◌-◌, ◌≤◌, ◌<◌}
use native.Mathlib.Nat.{le_of_suc-le-suc}
use native.Mathlib.Omega.{arith}
use mir.Syntax.{w64}
use mir.Val.{Fits}
use lib.Dec.{leb}
use lib.IntN.{ℤ}
use lib.ListN.{length, get_or}
use borrow.Author.Tests.{leb-true, leb-false, le-leb, lt-leb, not-true}
use Rattle.instruction.specs.Answer.{accepted, refused}
use Rattle.instruction.proofs.Ands.{not_second, first_alone, first_part, second_part}
use Rattle.report_text.specs.Sums.{sum_list, adding, all_fit, fitting}
use Rattle.report_text.specs.declared.figures.Figures.{Figures}
use Rattle.report_text.specs.declared.sums.Sums.{Sums}

-- the highest number of 64 bits
abbrev pub most : ℕ
most = 18446744073709551615

pub fits_as : (a b : ℕ) → a ≤ most → leb b (most - a) ≡ leb (a + b) most
fits_as a b h = by (leb b (most - a)) refl
  where
    by : (t : Bool) → leb b (most - a) ≡ t → t ≡ leb (a + b) most
    by true e = let l = leb-true b (most - a) e in sym (le-leb (a + b) most (omega arith))
    by false e = let l = leb-false b (most - a) e in sym (lt-leb (a + b) most (omega arith))

-- one that does not fit
pub unfit_at : (ns : List ℕ) (i : ℕ) → i < length ns → leb (get_or ns i 0) most ≡ false → all_fit ns ≡ false
unfolding all_fit
unfit_at [] i h e = absurd (omega arith)
unfit_at (n ∷ ns) zero h e = rw e
unfit_at (n ∷ ns) (suc i) h e = not_second (leb n most) (all_fit ns) (unfit_at ns i (le_of_suc-le-suc h) e)

-- each of those that fit
pub fit_at : (ns : List ℕ) (i : ℕ) → i < length ns → all_fit ns ≡ true → get_or ns i 0 ≤ most
unfolding all_fit
fit_at [] i h e = absurd (omega arith)
fit_at (n ∷ ns) zero h e = leb-true n most (first_part _ (all_fit ns) e)
fit_at (n ∷ ns) (suc i) h e = fit_at ns i (le_of_suc-le-suc h) (second_part (leb n most) (all_fit ns) e)

-- so a machine number holds it
pub sum_held : (s : Sums) (i : ℕ) → i < 8 → fitting s ≡ true → Fits w64 (get_or (sum_list s) i 0)
sum_held s i h e = record { fits = omega (arith, fit_at (sum_list s) i h e) }

-- and what a machine number holds fits
held_fits : (n : ℕ) → Fits w64 n → leb n most ≡ true
held_fits n h = le-leb n most (omega (arith, h.fits))

pub sums_fit : (s : Sums) → Fits w64 s.length → Fits w64 s.steps → Fits w64 s.code → Fits w64 s.plain → Fits w64 s.shared
    → Fits w64 s.targets → Fits w64 s.accepted → Fits w64 s.refused → fitting s ≡ true
unfolding all_fit
sums_fit s a b c d e f g h =
    rw (
      held_fits s.length a,
      held_fits s.steps b,
      held_fits s.code c,
      held_fits s.plain d,
      held_fits s.shared e,
      held_fits s.targets f,
      held_fits s.accepted g,
      held_fits s.refused h,
    )

sum_fits : (s : Sums) (i : ℕ) → i < 8 → fitting s ≡ true → leb (get_or (sum_list s) i 0) most ≡ true
sum_fits s i h e = le-leb (get_or (sum_list s) i 0) most (fit_at (sum_list s) i h e)

-- with the figures of one more image: where one sum does not fit, and where only the number accepted is open
module _ (s : Sums) (f : Figures) where
  pub unfit_figure : (i : ℕ) → i < 8 → (t : Bool) → t ≡ leb (get_or (sum_list (adding s (accepted f))) i 0) most → not t ≡ true
      → false ≡ fitting (adding s (accepted f))
  unfit_figure i h t e n = sym (unfit_at (sum_list (adding s (accepted f))) i h (sym e ∙ not-true t n))

  pub accepted_fits : leb (s.length + f.length) most ≡ true → leb (s.steps + f.steps) most ≡ true
      → leb (s.code + f.code) most ≡ true → leb (s.plain + f.plain) most ≡ true
      → leb (s.shared + f.shared) most ≡ true → leb (s.targets + f.targets) most ≡ true
      → fitting s ≡ true → leb (s.accepted + 1) most ≡ fitting (adding s (accepted f))
  unfolding all_fit
  accepted_fits a b c d e g h =
      rw (a, b, c, d, e, g, sum_fits s 7 (omega arith) h) (sym (first_alone (leb (s.accepted + 1) most) true refl))

-- with one more refused
pub refused_fits : (s : Sums) (n : ℕ) (vs : List ℤ) → fitting s ≡ true → leb (s.refused + 1) most ≡ fitting (adding s (refused n vs))
unfolding all_fit
refused_fits s n vs h =
    rw (
      sum_fits s 0 (omega arith) h,
      sum_fits s 1 (omega arith) h,
      sum_fits s 2 (omega arith) h,
      sum_fits s 3 (omega arith) h,
      sum_fits s 4 (omega arith) h,
      sum_fits s 5 (omega arith) h,
      sum_fits s 6 (omega arith) h,
    )
    (sym (first_alone (leb (s.refused + 1) most) true refl))
