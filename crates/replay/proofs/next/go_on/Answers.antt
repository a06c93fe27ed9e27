-- `next::go_on` meets its contract.
-- Assumes nothing.
use Rattle.std.proofs.Common.{◌∙◌, refl, Some}
use Rattle.replay.proofs.Logs.{going_is}
use Rattle.replay.proofs.next.go_on.Goals as goal

pub returns-in-Target : goal.returns-in-Target
returns-in-Target c =
    let a = c.args in
    let e = c.in-Target.is in
    c.taken.ensures ∙ going_is a.log a.p (Some a.by) a.log.interrupts a.log.free (rw e refl) (rw e refl)

pub returns-in-Interrupt : goal.returns-in-Interrupt
returns-in-Interrupt c =
    let a = c.args in
    let e = c.in-Interrupt.is in
    c.taken-in-Interrupt.ensures ∙ going_is a.log a.p (Some a.by) c.one_more.result a.log.free (rw e c.one_more.ensures) (rw e refl)

pub returns-in-Free : goal.returns-in-Free
returns-in-Free c =
    let a = c.args in
    let e = c.in-Free.is in
    c.taken-in-Free.ensures ∙ going_is a.log a.p (Some a.by) a.log.interrupts c.one_more-in-Free.result (rw e refl) (rw e c.one_more-in-Free.ensures)
