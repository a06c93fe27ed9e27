-- The number and values of what is reported of an image tell all cases apart, and so does what one call took: they are read back.
-- Assumes nothing.
use mathlib.Core.Bool.{cond}
use mathlib.Core.Path.{◌≡◌, refl, sym, ap, ◌∙◌}
use lib.Dec.{eqb}
use Rattle.std.proofs.Common.{Result, Ok, Err, ℕ, List, ℤ}
use lib.IntN.{pos, nat_abs}
use lib.ListN.{get_or}
use Rattle.marks.specs.declared.sizes.SizeError.TheVariants.{LongImage, ShortMarks}
use Rattle.views.specs.declared.view.ViewError.{ViewError}
use Rattle.views.specs.declared.view.ViewError.TheVariants.{Size, Damaged, NoRoom}
use Rattle.instruction.specs.Answer.{Answer, accepted, refused}
use Rattle.report_text.specs.ClaimsReport.{ReportedApart, TakenApart}
use Rattle.report_text.specs.Image.{reported_of}
use Rattle.report_text.specs.Term.{taken_of, used_of, term_of}
use Rattle.report_text.specs.declared.figures.Figures.{Figures}
use Rattle.report_text.specs.declared.term.Term.{Term}
use Rattle.report_text.specs.declared.term.Taken.{Taken}
use Rattle.report_text.specs.declared.image.ImageError.{ImageError}
use Rattle.report_text.specs.declared.image.ImageError.TheVariants.{Malformed, Cut}

abbrev told : Answer Figures → Result Figures ImageError
told (accepted f) = Ok f
told (refused n vs) = cond (eqb n 13) (Err Malformed) (Err Cut)

back : (r : Result Figures ImageError) → told (reported_of r) ≡ r
back (Ok f) = refl
back (Err Malformed) = refl
back (Err Cut) = refl

pub reported_apart : ReportedApart
reported_apart r s e = sym (back r) ∙ ap told e ∙ back s

abbrev first_value : List ℤ → ℕ
first_value vs = nat_abs (get_or vs 0 (pos 0))

abbrev took : Answer ℕ → ℕ → Term → Result Taken ViewError
took (accepted n) used term = Ok (record { term = term; used = used; printed = n })
took (refused n vs) used term =
    cond (eqb n 1) (Err (Size (LongImage (first_value vs))))
    (cond (eqb n 2) (Err (Size (ShortMarks (first_value vs))))
    (cond (eqb n 6) (Err (Damaged (first_value vs))) (Err (NoRoom (first_value vs)))))

taken_back : (t : Term) (r : Result Taken ViewError) → took (taken_of r) (used_of r) (term_of r t) ≡ r
taken_back t (Ok r) = refl
taken_back t (Err (Size (LongImage n))) = refl
taken_back t (Err (Size (ShortMarks n))) = refl
taken_back t (Err (Damaged p)) = refl
taken_back t (Err (NoRoom n)) = refl

pub taken_apart : TakenApart
taken_apart t r s e f g = sym (taken_back t r) ∙ rw (e, f, g) (taken_back t s)
