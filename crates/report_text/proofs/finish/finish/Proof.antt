-- `finish::finish` meets its contract.
-- Assumes nothing.
use Prim.Native.Nat.{ℕ}
use native.Mathlib.Omega.{arith}
use mathlib.Core.List.{List}
use mathlib.Core.Path.{◌≡◌, sym, ap, ◌∙◌}
use borrow.Author.Rules.{rules}
use borrow.Author.Tests.{not-true, not-false}
use Rattle.text.proofs.Cuts.{end_inside}
use Rattle.list_text.proofs.Firsts.{split}
use Rattle.report_text.proofs.Finishes.{finish_over, finish_on}
use Rattle.report_text.proofs.finish.finish.Statement.{statement}
use Rattle.report_text.proofs.finish.finish.Tie as tie

returns : tie.Need-returns-then-not-image_fits
returns c =
    let p = c.before.before in
    let f = p.before.before in
    let i = f.before.before in
    let a = i.args in
    finish_over a.s a.text.now a.out.now _ _ i.report_image-answer.ensures _ p.put_sum_refusal-n.ensures.1
    (sym f.image_fits.ensures ∙ not-true _ f.if-not-image_fits.true-raw) p.put_sum_refusal-n.ensures.0

add-requires : tie.Need-add-sums-requires
add-requires c κs = sym c.image_fits.ensures ∙ not-false _ c.if-not-image_fits.false-raw

part_end : tie.Need-slice_bounds-put_image-end
part_end c =
    let t : List ℕ = c.args.text.now in
    let e = end_inside 10 t 0 (omega arith) in
    omega (arith, c.end-end.ensures, e)

returns-2 : tie.Need-returns
returns-2 c =
    let p = c.before.before in
    let e = p.before.before.before in
    let d = e.before in
    let f = d.before in
    let i = f.before.before in
    let a = i.args in
    finish_on a.s a.text.now a.out.now _ _ i.report_image-answer.ensures _ p.put_image-n.ensures.1 _ d.add-sums.ensures
    (sym f.image_fits.ensures ∙ not-false _ f.if-not-image_fits.false-raw) _ (sym (split a.text.now e.end-end.result e.end-end.ensures).0)
    p.put_image-n.ensures.0

pub finish_spec : {M : Type 1} → statement M
finish_spec =
    tie.close
    (tie.spec (λ c κs. search rules) (λ c κs. search rules) (λ c κs. search rules) (λ c. search rules) returns add-requires (λ c κs. search rules)
    (λ c. search rules) (λ c. search rules) part_end (λ c κs. search rules) (λ c. search rules) returns-2)
