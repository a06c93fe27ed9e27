-- What is not found of `sweep::meet`: a position passed, or taken up.
-- Assumes nothing.
use Rattle.std.proofs.Common.{arith}
use mathlib.Core.Path.{subst}
use mathlib.Core.List.{Memᴰ as Among}
use Rattle.reach.proofs.Found.{found_called}
use Rattle.marks.specs.Tracer.{tracer_of}
use Rattle.marks.proofs.TakeUp.{by_ways}
use Rattle.targets.proofs.WaysAre.{goes_whole}
use Rattle.sweep.proofs.Inside.{not_fitting}
use Rattle.sweep.proofs.Meeting.{not_waiting, cut_off_lem, taken_up}
use Rattle.sweep.proofs.sweep.meet.Goals as goal

pub returns-then-marks-p-ne-WAITING : goal.returns-then-marks-p-ne-WAITING
returns-then-marks-p-ne-WAITING c =
    let a = c.args in not_waiting (tracer_of a.mode a.image.now) a.marks.now a.p a.way c.if-marks-p-ne-WAITING.true

pub returns-in_default : goal.returns-in_default
returns-in_default c =
    let a = c.args in
    let s = c.requires in
    cut_off_lem (tracer_of a.mode a.image.now) a.marks.now a.p a.way (not_fitting a.mode a.image.now a.p s.0 s.1 _ c.in_default.ensures)

pub after-requires : goal.after-requires
after-requires c =
    let a = c.args in
    let s = c.requires in
    let w = goes_whole a.mode a.image.now a.p s.0 s.1 c.in-Ok.to c.in-Ok.ensures in
    let t = by_ways a.mode a.image.now _ a.marks.now a.p _ _ w.1 c.take_up-up.ensures in (
      s.3,
      λ q i. let o = found_called (tracer_of a.mode a.image.now) a.marks.now a.p s.2 s.0 q (subst (Among q) t.noted_are i) in omega (arith, s.1, o.2.inside),
    )

pub returns : goal.returns
returns c =
    let a = c.args in
    let s = c.requires in
    let w = goes_whole a.mode a.image.now a.p s.0 s.1 c.in-Ok.to c.in-Ok.ensures in
    let t = by_ways a.mode a.image.now _ a.marks.now a.p _ _ w.1 c.take_up-up.ensures in
    taken_up (tracer_of a.mode a.image.now) a.marks.now a.p a.way s.2 s.0 c.if-marks-p-ne-WAITING.false w.0 _ t.noted_are c.after.result c.after.ensures _ t.marks_are
