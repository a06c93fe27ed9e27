-- What is not found of `fall::next_fall`: nothing falls before the position that is told.
-- Assumes nothing.
use mathlib.Core.Path.{◌≡◌, sym, ◌∙◌}
use mathlib.Core.Bool.{true, false}
use Rattle.std.proofs.Common.{rules, tests}
use Rattle.std.proofs.lemmas.Iterator.{first_from_Range}
use lib.ListN.{length}
use Rattle.arrivals.specs.Index.{falls_from}
use Rattle.arrivals.proofs.Lowest.{low_no}
use Rattle.arrivals.proofs.Falls.{past_limit, fall_found}
use Rattle.arrivals.proofs.fall.next_fall.Goals as goal

pub returns-then-image-gt-LIMIT : goal.returns-then-image-gt-LIMIT
returns-then-image-gt-LIMIT c =
    let a = c.args in
    sym (low_no (falls_from a.mode a.image.now a.marks.now a.p) (length a.image.now)
    (λ q. past_limit a.mode a.image.now a.marks.now a.p q c.if-image-gt-LIMIT.true) a.from)

pub returns : goal.returns
returns c =
    let a = c.args in
    let f = falls_from a.mode a.image.now a.marks.now a.p in
    let e = fall_found a.mode a.image.now a.marks.now (λ n. (c.type_inv.image n).fits) c.if-image-gt-LIMIT.false a.p c.end_before-end.result
    a.from c.window.result c.end_before-end.ensures c.window.ensures c.find.result
    (first_from_Range _ _ _ c.find.result (λ q. f q ≡ true) (λ q. f q ≡ false) c.find.ensures.ran (λ x q k. search (rules, tests)) (λ x q k. search (rules, tests))) in
    c.unwrap_or.ensures ∙ e
