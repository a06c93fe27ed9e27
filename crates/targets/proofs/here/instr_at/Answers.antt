-- What `instr_at` answers is what stands there.
-- Assumes nothing.
use Rattle.std.proofs.Common.{refl, ap, ◌∙◌}
use Rattle.instruction.specs.Decode.{decode_answer}
use Rattle.targets.proofs.HereIs.{to_end, outside_here, whole_here, cut_here, never_nothing}
use Rattle.targets.proofs.here.instr_at.Goals as goal

pub returns-then-image-at : goal.returns-then-image-at
returns-then-image-at c = outside_here c.args.image.now c.args.p c.if-image-at.true

pub returns-in-Ok : goal.returns-in-Ok
returns-in-Ok c =
    let a = c.args in
    whole_here a.image.now a.p c.if-image-at.false c.in-Ok.i (c.in-Ok.ensures ∙ ap decode_answer (to_end a.image.now a.p))

pub returns-in-Err-Cut : goal.returns-in-Err-Cut
returns-in-Err-Cut c =
    let a = c.args in
    let e = rw c.in-Err-Cut.field-0-is at c.in-Err-Cut.ensures in
    cut_here a.image.now a.p c.if-image-at.false c.in-Err-Cut.c _ (e ∙ ap decode_answer (to_end a.image.now a.p)) (refl, refl, refl)

pub returns-in-Err-Nothing : goal.returns-in-Err-Nothing
returns-in-Err-Nothing c =
    let a = c.args in
    let e = rw c.in-Err-Nothing.field-0-is at c.in-Err-Nothing.ensures in
    absurd (never_nothing a.image.now a.p c.if-image-at.false (e ∙ ap decode_answer (to_end a.image.now a.p)))
