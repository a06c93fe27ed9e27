-- There is no room for it, or it is put.
-- Assumes nothing.
use Rattle.std.proofs.Common.{refl, sym, ◌∙◌}
use Rattle.dis_text.proofs.Takes.{pin_off, pin_on, entry_off, entry_on}
use Rattle.dis_text.proofs.asked.take_number.Goals as goal

pub returns-then-not-push-clause-pins_after : goal.returns-then-not-push-clause-pins_after
returns-then-not-push-clause-pins_after c =
    let a = c.args in
    let s = c.requires in
    pin_off a.asked a.n a.entries.now a.pins.now s.0 s.1 s.2 c.if-asked.true (sym c.if-not-push.true ∙ c.push.ensures.0)

pub returns-then-asked-clause-pins_after : goal.returns-then-asked-clause-pins_after
returns-then-asked-clause-pins_after c =
    let a = c.args in
    let s = c.requires in
    (pin_on a.asked a.n a.entries.now a.pins.now s.0 s.1 s.2 c.if-asked.true (sym c.if-not-push.false ∙ c.push.ensures.0) _ c.push.ensures.1 _ refl).0

pub returns-then-not-push-2-clause-pins_after : goal.returns-then-not-push-2-clause-pins_after
returns-then-not-push-2-clause-pins_after c =
    let a = c.args in
    let s = c.requires in
    entry_off a.asked a.n a.entries.now a.pins.now s.0 s.1 s.2 c.if-asked.false (sym c.if-not-push-2.true ∙ c.push-2.ensures.0)

pub returns-clause-pins_after : goal.returns-clause-pins_after
returns-clause-pins_after c =
    let a = c.args in
    let s = c.requires in
    (entry_on a.asked a.n a.entries.now a.pins.now s.0 s.1 s.2 c.if-asked.false (sym c.if-not-push-2.false ∙ c.push-2.ensures.0) _ c.push-2.ensures.1 _
    (rw c.if-asked.false refl)).0
