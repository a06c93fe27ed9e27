-- `keep::begin_line` meets its contract.
-- Assumes nothing.
use Rattle.std.proofs.Common.{◌∙◌, ℕ, List, take, refl, ap}
use Rattle.replay.proofs.Beginning.{begun_line}
use Rattle.replay.proofs.keep.begin_line.Goals as goal

pub returns-clause-value : goal.returns-clause-value
returns-clause-value c =
    let a = c.args in
    (begun_line a.log a.text.now a.line.now _ _ _ _ c.told-line c.held_in-held.ensures c.min-missing.ensures refl refl).0

pub returns-clause-line_after : goal.returns-clause-line_after
returns-clause-line_after c =
    let a = c.args in
    (begun_line a.log a.text.now a.line.now _ _ _ _ c.told-line c.held_in-held.ensures c.min-missing.ensures
    (c.copy_from_slice.ensures.after ∙ ap (λ (b : List ℕ). take c.held_in-held.result b) c.to_le_bytes-part.ensures) c.copy_from_slice-2.ensures.after).1
