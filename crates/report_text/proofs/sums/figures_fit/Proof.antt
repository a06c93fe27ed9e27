-- `sums::figures_fit` meets its contract.
-- Assumes nothing.
use mathlib.Core.Bool.{true}
use mathlib.Core.Path.{◌≡◌, sym, ◌∙◌}
use native.Mathlib.Omega.{arith}
use borrow.Author.Rules.{rules}
use borrow.Author.Tests.{not-false}
use Rattle.report_text.specs.Sums.{fitting}
use Rattle.report_text.proofs.Adding.{sums_fit, unfit_figure, accepted_fits}
use Rattle.report_text.proofs.sums.figures_fit.Statement.{statement}
use Rattle.report_text.proofs.sums.figures_fit.Tie as tie

returns : tie.Need-returns-then-not-fits
returns c =
    let k = c.before in
    let a = k.args in
    unfit_figure a.s a.f 0 (omega arith) _ k.fits.ensures c.if-not-fits.true-raw

returns-2 : tie.Need-returns-then-not-fits-2
returns-2 c =
    let k = c.before in
    let a = k.args in
    unfit_figure a.s a.f 1 (omega arith) _ k.fits-2.ensures c.if-not-fits-2.true-raw

returns-3 : tie.Need-returns-then-not-fits-3
returns-3 c =
    let k = c.before in
    let a = k.args in
    unfit_figure a.s a.f 2 (omega arith) _ k.fits-3.ensures c.if-not-fits-3.true-raw

returns-4 : tie.Need-returns-then-not-fits-4
returns-4 c =
    let k = c.before in
    let a = k.args in
    unfit_figure a.s a.f 3 (omega arith) _ k.fits-4.ensures c.if-not-fits-4.true-raw

returns-5 : tie.Need-returns-then-not-fits-5
returns-5 c =
    let k = c.before in
    let a = k.args in
    unfit_figure a.s a.f 4 (omega arith) _ k.fits-5.ensures c.if-not-fits-5.true-raw

returns-6 : tie.Need-returns-then-not-fits-6
returns-6 c =
    let k = c.before in
    let a = k.args in
    unfit_figure a.s a.f 5 (omega arith) _ k.fits-6.ensures c.if-not-fits-6.true-raw

-- what the sums hold so far
fit : (s : tie.Start) → fitting s.args.s ≡ true
fit s = sums_fit s.args.s (search rules) (search rules) (search rules) (search rules) (search rules) (search rules) (search rules) (search rules)

returns-7 : tie.Need-returns
returns-7 c =
    let f = c.before in
    let e = f.before.before in
    let d = e.before.before in
    let n = d.before.before in
    let m = n.before.before in
    let l = m.before.before in
    let s = l.before.before in
    c.fits-7.ensures
    ∙ accepted_fits s.args.s s.args.f
    (sym m.fits.ensures ∙ not-false _ l.if-not-fits.false-raw) (sym n.fits-2.ensures ∙ not-false _ m.if-not-fits-2.false-raw)
    (sym d.fits-3.ensures ∙ not-false _ n.if-not-fits-3.false-raw) (sym e.fits-4.ensures ∙ not-false _ d.if-not-fits-4.false-raw)
    (sym f.fits-5.ensures ∙ not-false _ e.if-not-fits-5.false-raw) (sym c.fits-6.ensures ∙ not-false _ f.if-not-fits-6.false-raw) (fit s)

pub figures_fit_spec : {M : Type 1} → statement M
figures_fit_spec =
    tie.close
    (tie.spec (λ c κs. search rules) returns (λ c κs. search rules) returns-2 (λ c κs. search rules) returns-3
    (λ c κs. search rules) returns-4 (λ c κs. search rules) returns-5 (λ c κs. search rules) returns-6 (λ c κs. search rules) returns-7)
