-- `feed::feed` meets its contract.
-- Assumes nothing.
use Rattle.std.proofs.Common.{◌∙◌, ℕ, List, ap}
use Rattle.map.specs.Words.{code_at}
use Rattle.replay.proofs.Table.{entered}
use Rattle.replay.proofs.Alike.{block_like}
use Rattle.replay.specs.Take.{state}
use Rattle.replay.specs.Entry.{with_entries}
use Rattle.replay.specs.Block.{is_entry_of}
use Rattle.replay.proofs.feed.feed.Goals as goal

pub returns : goal.returns
returns c =
    let a = c.args in
    c.take_joined.ensures
    ∙ block_like a.mode a.image.now a.marks.now _ (is_entry_of a.entries.now)
    (λ p h. ap (λ (ws : List ℕ). code_at ws p) (c.enter.ensures ∙ ap (with_entries a.entries.now) c.table-table.ensures) ∙ entered a.entries.now p h)
    (state a.log a.counts.now) a.text.now
