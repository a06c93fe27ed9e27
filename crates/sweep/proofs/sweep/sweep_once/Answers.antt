-- What is not found of `sweep::sweep_once`: where the sweep stands.
-- Assumes nothing.
use Rattle.std.proofs.Common.{refl}
use Rattle.marks.specs.Tracer.{tracer_of}
use Rattle.sweep.proofs.Passing.{passing_start, passing_next, passing_done}
use Rattle.sweep.proofs.sweep.sweep_once.Goals as goal

pub loop-p-init : goal.loop-p-init
loop-p-init c =
    let a = c.args in
    let r = c.requires.image_len_bound in
    passing_start (tracer_of a.mode a.image.now) a.marks.now a.from a.to r.2 r.3 c.requires.between _ refl

pub loop-p-preserved : goal.loop-p-preserved
loop-p-preserved c =
    let a = c.args in
    let l = c.loop-p in
    passing_next (tracer_of a.mode a.image.now) a.marks.now l.marks l.p l.way l.invariant c.loop-p-test.true _ _ c.meet-way.ensures

pub returns : goal.returns
returns c =
    let a = c.args in
    let l = c.loop-p in
    passing_done (tracer_of a.mode a.image.now) a.marks.now l.marks l.p l.way l.invariant c.loop-p-test.false
