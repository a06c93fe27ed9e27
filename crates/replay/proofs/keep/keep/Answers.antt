-- `keep::keep` meets its contract.
-- Assumes nothing.
use Rattle.std.proofs.Common.{◌∙◌, sym}
use Rattle.replay.proofs.Bytes.{any_ten}
use Rattle.replay.proofs.Keeping.{keep_refused, keep_held}
use Rattle.replay.proofs.keep.keep.Goals as goal

pub returns-then-contains : goal.returns-then-contains
returns-then-contains c =
    let a = c.args in
    c.refuse.ensures ∙ keep_refused a.log a.rest.now (sym (any_ten a.rest.now) ∙ sym c.contains.ensures.value ∙ c.if-contains.true)

pub returns : goal.returns
returns c =
    let a = c.args in
    keep_held a.log a.rest.now _ (sym (any_ten a.rest.now) ∙ sym c.contains.ensures.value ∙ c.if-contains.false) c.number_of.ensures
