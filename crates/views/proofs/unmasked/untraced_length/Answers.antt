-- What is not found of `unmasked::untraced_length`: how many positions are taken.
-- Assumes nothing.
use mathlib.Core.Path.{◌∙◌}
use native.Mathlib.Omega.{arith}
use Prim.Native.Nat.{◌+◌}
use lib.ListN.{length}
use Rattle.std.proofs.Common.{rules, tests}
use Rattle.std.specs.List.{range_with_len}
use Rattle.std.proofs.lemmas.Iterator.{YieldsList-from_range}
use Rattle.std.proofs.lemmas.Iterator.Consumers.{count_from_yields_List}
use Rattle.std.proofs.lemmas.Iterator.Search.{YieldsList-from_take_while}
use Rattle.std.proofs.lemmas.List.Folds.{length-prefix_len}
use Rattle.views.specs.Unmasked.{is_untraced, untraced_length}
use Rattle.views.proofs.DataRuns.{leading_prefix, leading_in}
use Rattle.views.proofs.Unmasking.{untraced_inside}
use Rattle.views.proofs.unmasked.untraced_length.Goals as goal

pub returns : goal.returns
unfolding untraced_length
returns c =
    let a = c.args in
    let t = is_untraced a.image.now a.marks.now in
    let e = count_from_yields_List c.take_while.result _ c.count.ensures.ran
    (YieldsList-from_take_while _ t (YieldsList-from_range a.at (a.at + 16) 16 (cc) (omega arith)) c.take_while.ensures.closure c.take_while.ensures.done
    (λ x b q k. search (rules, tests)))
    ∙ length-prefix_len t (range_with_len a.at 16) ∙ leading_prefix t 16 a.at in
    (e, rw e (leading_in t (length a.image.now) (λ b f. untraced_inside a.image.now a.marks.now b f) 16 a.at (omega arith)))
