-- `block::take_block` meets its contract.
-- Assumes nothing.
use Rattle.std.proofs.Common.{refl, sym, Ok, Err}
use Rattle.replay.proofs.Blocks.{block_held, block_lent, block_fed}
use Rattle.replay.proofs.Lent.{lent_err, lent_ok, lent_sizes}
use Rattle.replay.specs.Answers.{no_totals}
use Rattle.replay.specs.declared.answer.ReplayError.TheVariants.{View}
use Rattle.replay.proofs.block.take_block.Goals as goal

pub returns-then-log-ne0 : goal.returns-then-log-ne0
returns-then-log-ne0 c =
    let a = c.args in
    let w = block_held a.log a.mode a.text.now a.image.now a.marks.now a.entries.now a.counts.now c.if-log-ne0.true c.told-answer.result c.told-answer.ensures in
    record { answer_value = w.0; log_value = w.1.0; counts_after = w.1.1 }

pub returns-in-Err : goal.returns-in-Err
returns-in-Err c =
    let a = c.args in
    let w = block_lent a.log a.mode a.text.now a.image.now a.marks.now a.entries.now a.counts.now c.if-log-ne0.false (Err (View c.in-Err.e))
    (lent_err a.image.now a.marks.now a.counts.now c.in-Err.e c.in-Err.ensures) refl in
    record { answer_value = w.0; log_value = w.1.0; counts_after = w.1.1 }

pub feed-log-requires : goal.feed-log-requires
feed-log-requires c =
    let a = c.args in
    lent_sizes a.image.now a.marks.now a.counts.now no_totals (sym (lent_ok a.image.now a.marks.now a.counts.now c.in_default.ensures))

pub returns : goal.returns
returns c =
    let a = c.args in
    let w = block_fed a.log a.mode a.text.now a.image.now a.marks.now a.entries.now a.counts.now c.if-log-ne0.false (Ok no_totals)
    (lent_ok a.image.now a.marks.now a.counts.now c.in_default.ensures) refl c.feed-log.result _ c.feed-log.ensures c.told-answer-2.result
    c.told-answer-2.ensures in
    record { answer_value = w.0; log_value = w.1.0; counts_after = w.1.1 }
