-- One more refused image fits where its sum does.
-- Assumes nothing.
use Rattle.std.proofs.Common.{◌≡◌, [], rules, sym, ap, ◌∙◌, Result}
use Rattle.report_text.specs.Image.{reported_of}
use Rattle.report_text.specs.Sums.{adding, fitting}
use Rattle.report_text.specs.declared.figures.Figures.{Figures}
use Rattle.report_text.specs.declared.image.ImageError.{ImageError}
use Rattle.report_text.proofs.Adding.{sums_fit, refused_fits}
use Rattle.report_text.proofs.sums.image_fits.Goals as goal

pub returns-in-Err : goal.returns-in-Err
returns-in-Err c =
    let s = c.args.s in
    let e = ap (λ (i : Result Figures ImageError). fitting (adding s (reported_of i))) c.in-Err.is in
    let f =
    sums_fit s (search rules) (search rules) (search rules) (search rules) (search rules) (search rules) (search rules) (search rules)
    in
    c.fits.ensures ∙ refused_fits s 0 [] f ∙ sym e
