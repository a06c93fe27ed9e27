-- What is not found of `labels::write_labels`: one position more, and all.
-- Assumes nothing.
use mathlib.Core.Path.{ap, ◌∙◌}
use mathlib.Core.List.{List, ◌++◌}
use Prim.Native.Nat.{ℕ, ◌≤◌}
use native.Mathlib.Omega.{arith}
use lib.ListN.{length}
use Rattle.views.specs.Labels.{labels_of}
use Rattle.views.proofs.Labelling.{clear_at, clear_rest, labels_start, labels_next, labels_end}
use Rattle.views.proofs.labels.write_labels.Goals as goal

pub loop-p-init : goal.loop-p-init
loop-p-init c =
    let a = c.args in
    labels_start a.mode a.image.now a.marks.now c.clear.new.room
    (clear_at (length a.image.now) a.room.now c.clear.new.room c.requires.2 c.clear.ensures.room_after)

pub loop-p-preserved : goal.loop-p-preserved
loop-p-preserved c =
    let a = c.args in
    let l = c.loop-p in
    let h : length a.image.now ≤ length a.room.now = c.requires.2 in
    labels_next a.mode a.image.now a.marks.now c.clear.new.room (omega (arith, c.clear.auto.room)) l.p l.room l.invariant
    c.label_from.new.room c.label_from.ensures c.label_from.auto.room

pub returns : goal.returns
returns c =
    let a = c.args in
    let l = c.loop-p in
    let h : length a.image.now ≤ length a.room.now = c.requires.2 in
    labels_end a.mode a.image.now a.marks.now c.clear.new.room (omega (arith, c.clear.auto.room)) l.p (omega arith) c.loop-p-test.false l.room l.invariant
    ∙ ap (λ (r : List ℕ). labels_of a.mode a.image.now a.marks.now ++ r)
    (clear_rest (length a.image.now) a.room.now c.clear.new.room c.requires.2 c.clear.ensures.room_after)
