-- `whole::replay` meets its contract.
-- Assumes nothing.
use Rattle.std.proofs.Common.{◌∙◌, refl, sym, Ok, Err}
use Rattle.std.proofs.lemmas.Result.{err_from_is_err_and}
use Rattle.replay.proofs.Wholes.{Leaves, whole_lent, can_take_back, whole_told, whole_refused}
use Rattle.replay.proofs.Lent.{lent_err, lent_ok, lent_sizes}
use Rattle.replay.specs.Answers.{no_totals}
use Rattle.replay.specs.declared.answer.ReplayError.TheVariants.{View}
use Rattle.replay.proofs.whole.replay.Goals as goal
use Rattle.replay.proofs.whole.replay.Goals.{After-from_residual}

-- a refusal of what is lent
lent : (c : After-from_residual) → let a = c.args in
    Leaves a.mode a.text.now a.image.now a.marks.now a.entries.now a.counts.now (Err (View c.in_err-check.field-0.0))
    (lent_err a.image.now a.marks.now a.counts.now c.in_err-check.field-0.0 c.in_err-check.ensures) c.from_residual.result a.counts.now
lent c =
    let a = c.args in
    let q = err_from_is_err_and c.from_residual.result c.from_residual.ensures.1 in
    rw (q.1, q.2)
    (whole_lent a.mode a.text.now a.image.now a.marks.now a.entries.now a.counts.now (Err (View c.in_err-check.field-0.0))
    (lent_err a.image.now a.marks.now a.counts.now c.in_err-check.field-0.0 c.in_err-check.ensures) refl)

pub returns-in_err-check-clause-result_value : goal.returns-in_err-check-clause-result_value
returns-in_err-check-clause-result_value c = (lent c).0

pub returns-in_err-check-clause-counts_after : goal.returns-in_err-check-clause-counts_after
returns-in_err-check-clause-counts_after c = (lent c).1

pub feed-log-requires : goal.feed-log-requires
feed-log-requires c =
    let a = c.args in
    lent_sizes a.image.now a.marks.now a.counts.now no_totals (sym (lent_ok a.image.now a.marks.now a.counts.now c.in_ok-check.ensures))

pub take_back-requires : goal.take_back-requires
take_back-requires c =
    let a = c.args in
    let e = lent_ok a.image.now a.marks.now a.counts.now c.in_ok-check.ensures in
    can_take_back a.mode a.text.now a.image.now a.marks.now a.entries.now a.counts.now (Ok no_totals) e refl
    c.new.result c.feed-log.result _ c.new.ensures c.feed-log.ensures c.well_formed.1.0.0
    (lent_sizes a.image.now a.marks.now a.counts.now no_totals (sym e)).1

pub returns-then-is_err-clause-result_value : goal.returns-then-is_err-clause-result_value
returns-then-is_err-clause-result_value c =
    let a = c.args in
    let e = lent_ok a.image.now a.marks.now a.counts.now c.in_ok-check.ensures in
    (whole_refused a.mode a.text.now a.image.now a.marks.now a.entries.now a.counts.now (Ok no_totals) e refl
    c.new.result c.feed-log.result _ c.new.ensures c.feed-log.ensures c.close-answer.result c.close-answer.ensures
    (sym c.is_err.ensures.value ∙ c.if-is_err.true) c.well_formed.1.0.0 (lent_sizes a.image.now a.marks.now a.counts.now no_totals (sym e)).1 _
    c.take_back.ensures).0

pub returns-then-is_err-clause-counts_after : goal.returns-then-is_err-clause-counts_after
returns-then-is_err-clause-counts_after c =
    let a = c.args in
    let e = lent_ok a.image.now a.marks.now a.counts.now c.in_ok-check.ensures in
    (whole_refused a.mode a.text.now a.image.now a.marks.now a.entries.now a.counts.now (Ok no_totals) e refl
    c.new.result c.feed-log.result _ c.new.ensures c.feed-log.ensures c.close-answer.result c.close-answer.ensures
    (sym c.is_err.ensures.value ∙ c.if-is_err.true) c.well_formed.1.0.0 (lent_sizes a.image.now a.marks.now a.counts.now no_totals (sym e)).1 _
    c.take_back.ensures).1

pub returns-else-is_err-clause-result_value : goal.returns-else-is_err-clause-result_value
returns-else-is_err-clause-result_value c =
    let a = c.args in
    (whole_told a.mode a.text.now a.image.now a.marks.now a.entries.now a.counts.now (Ok no_totals)
    (lent_ok a.image.now a.marks.now a.counts.now c.in_ok-check.ensures) refl
    c.new.result c.feed-log.result _ c.new.ensures c.feed-log.ensures c.close-answer.result c.close-answer.ensures
    (sym c.is_err.ensures.value ∙ c.if-is_err.false)).0

pub returns-else-is_err-clause-counts_after : goal.returns-else-is_err-clause-counts_after
returns-else-is_err-clause-counts_after c =
    let a = c.args in
    (whole_told a.mode a.text.now a.image.now a.marks.now a.entries.now a.counts.now (Ok no_totals)
    (lent_ok a.image.now a.marks.now a.counts.now c.in_ok-check.ensures) refl
    c.new.result c.feed-log.result _ c.new.ensures c.feed-log.ensures c.close-answer.result c.close-answer.ensures
    (sym c.is_err.ensures.value ∙ c.if-is_err.false)).1
