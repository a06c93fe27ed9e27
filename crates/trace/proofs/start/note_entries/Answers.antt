-- What is not found of `start::note_entries`: one entry more.
-- Assumes nothing.
use Rattle.std.proofs.Common.{◌≡◌, ◌+◌, true, false, length, take, ap, sym, ◌∙◌, arith, length-take-le}
use Rattle.reach.proofs.FreshCount.{fresh_short}
use Rattle.reach.proofs.Note.{note_nil, fresh_nil}
use Rattle.marks.proofs.OneNoted.{marks_more, count_more}
use Rattle.trace.proofs.start.note_entries.Goals as goal
use Rattle.trace.proofs.start.note_entries.Goals.{then-note_one, else-note_one}

pub loop-t-init : goal.loop-t-init
loop-t-init c =
    let a = c.args in
    (sym (note_nil a.n a.marks.now), ap length (sym (fresh_nil a.n a.marks.now)))

pub overflow_add-set : goal.overflow_add-set
overflow_add-set c =
    let a = c.args in
    let l = c.loop-t in
    omega (
      arith,
      l.invariant.1,
      fresh_short a.n (take l.t-index a.entries.now) a.marks.now,
      length-take-le l.t-index a.entries.now c.loop-t.auto.t-index-end,
    )

pub loop-t-preserved : goal.loop-t-preserved
loop-t-preserved c =
    let a = c.args in
    let l = c.loop-t in
    let o = c.note_one.ensures in (
      marks_more a.n a.entries.now a.marks.now l.marks l.t-index c.loop-t-test.true l.invariant.0 _ o.marks_after,
      elim c.if-note_one.branch [
        | then-note_one w ↦ w.set-is ∙ count_more a.n a.entries.now a.marks.now l.marks l.t-index c.loop-t-test.true l.invariant.0 l.set true l.invariant.1
            (sym w.if-note_one.true ∙ o.value)
        | else-note_one w ↦ w.set-is
            ∙ (let z : l.set ≡ l.set + 0 = omega arith in z)
            ∙ count_more a.n a.entries.now a.marks.now l.marks l.t-index c.loop-t-test.true l.invariant.0 l.set false l.invariant.1 (sym w.if-note_one.false ∙ o.value)
      ],
    )
