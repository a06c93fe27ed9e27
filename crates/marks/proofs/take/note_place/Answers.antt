-- What is not found of `take::note_place`: what became waiting, by whether it did.
-- Assumes nothing.
use Rattle.std.proofs.Common.{true, false, sym, ◌∙◌}
use Rattle.marks.proofs.OneNoted.{fresh_is}
use Rattle.marks.proofs.take.note_place.Goals as goal

pub returns-then-note_one-clause-result_value : goal.returns-then-note_one-clause-result_value
returns-then-note_one-clause-result_value c =
    let a = c.args in
    sym (fresh_is a.n a.marks.now a.t true (sym c.if-note_one.true ∙ c.note_one.ensures.value))

pub returns-clause-result_value : goal.returns-clause-result_value
returns-clause-result_value c =
    let a = c.args in
    sym (fresh_is a.n a.marks.now a.t false (sym c.if-note_one.false ∙ c.note_one.ensures.value))
