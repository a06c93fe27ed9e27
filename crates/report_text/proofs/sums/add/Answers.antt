-- The sum of the refused images fits, since the sums do.
-- Assumes nothing.
use Rattle.std.proofs.Common.{◌≡◌, ℕ, ◌<◌, [], arith, sym, ap, ◌∙◌, Result}
use Rattle.instruction.specs.Answer.{refused}
use Rattle.report_text.specs.Image.{reported_of}
use Rattle.report_text.specs.Sums.{adding, fitting}
use Rattle.report_text.specs.declared.figures.Figures.{Figures}
use Rattle.report_text.specs.declared.image.ImageError.{ImageError}
use Rattle.report_text.proofs.Adding.{sum_held}
use Rattle.report_text.proofs.sums.add.Goals as goal

pub overflow_add-result : goal.overflow_add-result
overflow_add-result c =
    let s = c.args.s in
    let e = ap (λ (i : Result Figures ImageError). fitting (adding s (reported_of i))) c.in-Err.is in
    sum_held (adding s (refused 0 [])) 7 (omega arith) (sym e ∙ c.requires)
