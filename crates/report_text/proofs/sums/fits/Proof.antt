-- `sums::fits` meets its contract.
-- Assumes nothing.
use borrow.Author.Rules.{rules}
use Rattle.report_text.proofs.Adding.{fits_as}
use Rattle.report_text.proofs.sums.fits.Statement.{statement}
use Rattle.report_text.proofs.sums.fits.Tie as tie

returns : tie.Need-returns
returns c = fits_as c.args.a c.args.b (search rules)

pub fits_spec : {M : Type 1} → statement M
fits_spec = tie.close (tie.spec (λ c. search rules) returns)
