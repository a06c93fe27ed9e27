-- What is not found of `note::note_one`: a position outside or marked already, and one that became waiting.
-- Assumes nothing.
use Rattle.std.proofs.Common.{◌∙◌, sym}
use Rattle.marks.proofs.OneNoted.{opened, marked, outside}
use Rattle.marks.proofs.note.note_one.Goals as goal
use Rattle.marks.proofs.note.note_one.Goals.{then-n-t-via-then-n-t, then-n-t-via-else-n-t+then-at-ne-UNTOUCHED}

pub returns-then-n-t-clause-value : goal.returns-then-n-t-clause-value
returns-then-n-t-clause-value c =
    let a = c.args in
    elim c.then-n-t.branch [
      | then-n-t-via-then-n-t w ↦ (outside a.n a.marks.now a.t w.if-n-t.true).0
      | then-n-t-via-else-n-t+then-at-ne-UNTOUCHED w ↦ (marked a.n a.marks.now a.t (λ e. w.if-at-ne-UNTOUCHED.true (w.at.ensures ∙ e))).0
    ]

pub returns-then-n-t-clause-marks_after : goal.returns-then-n-t-clause-marks_after
returns-then-n-t-clause-marks_after c =
    let a = c.args in
    elim c.then-n-t.branch [
      | then-n-t-via-then-n-t w ↦ (outside a.n a.marks.now a.t w.if-n-t.true).1
      | then-n-t-via-else-n-t+then-at-ne-UNTOUCHED w ↦ (marked a.n a.marks.now a.t (λ e. w.if-at-ne-UNTOUCHED.true (w.at.ensures ∙ e))).1
    ]

pub returns-clause-value : goal.returns-clause-value
returns-clause-value c =
    let a = c.args in
    (opened a.n a.marks.now a.t c.if-n-t.false (sym c.at.ensures ∙ c.if-at-ne-UNTOUCHED.false)).0

pub returns-clause-marks_after : goal.returns-clause-marks_after
returns-clause-marks_after c =
    let a = c.args in
    c.put.ensures ∙ (opened a.n a.marks.now a.t c.if-n-t.false (sym c.at.ensures ∙ c.if-at-ne-UNTOUCHED.false)).1
