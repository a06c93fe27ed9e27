-- What `operand_place` answers, by the tests that led there.
-- Assumes nothing.
use Rattle.std.proofs.Common.{sym, ap, ◌∙◌, rules}
use Rattle.instruction.proofs.Sign.{back}
use Rattle.targets.specs.At.{place_of}
use Rattle.targets.proofs.AskedPlace.{at_zero, past_memory, not_fitting, names}
use Rattle.targets.proofs.ReadBack.{Read}
use Rattle.targets.proofs.asked.operand_place.Goals as goal
use Rattle.targets.proofs.asked.operand_place.Goals.{then-next-eq0-via-then-next-eq0, then-next-eq0-via-else-next-eq0+then-next}
use Rattle.targets.proofs.asked.operand_place.Goals.{then-next-eq0-via-else-next-eq0+else-next+then-is_unfit}

pub returns-then-next-eq0 : goal.returns-then-next-eq0
returns-then-next-eq0 c =
    let a = c.args in
    elim c.then-next-eq0.branch [
      | then-next-eq0-via-then-next-eq0 w ↦ at_zero a.mode a.next a.kind a.z w.if-next-eq0.true
      | then-next-eq0-via-else-next-eq0+then-next w ↦ past_memory a.mode a.next a.kind a.z w.if-next.true
      | then-next-eq0-via-else-next-eq0+else-next+then-is_unfit w ↦
          not_fitting a.mode a.next a.kind a.z w.if-next-eq0.false w.if-next.false (rw (back c.ranges.z) at (sym w.is_unfit.ensures ∙ w.if-is_unfit.true))
    ]

pub returns : goal.returns
returns c =
    let a = c.args in
    let f : Read c.address_of.result = search rules in
    let e = rw (back c.ranges.z) at (sym c.if-is_unfit.ensures) in
    c.place.ensures ∙ ap place_of (f ∙ (rw (back c.ranges.z) at c.address_of.ensures))
    ∙ names a.mode a.next a.kind a.z c.if-next-eq0.false c.if-next.false e
