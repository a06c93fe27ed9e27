-- `begin::begin` meets its contract.
-- Assumes nothing.
use mathlib.Core.Path.{ap, ◌∙◌}
use borrow.Author.Rules.{rules}
use Rattle.reach.specs.Pins.{pin}
use Rattle.marks.proofs.Clearing.{wiped_is}
use Rattle.trace.proofs.begin.begin.Statement.{statement}
use Rattle.trace.proofs.begin.begin.Tie as tie

returns : tie.Need-returns
returns c =
    let o = c.before.before in
    let d = o.before.before.before.before in
    let s = d.before.before.before.before in
    let a = s.args in
    o.pin.ensures ∙ ap (pin a.n a.pins.now) (d.clear.ensures.1 ∙ wiped_is _ a.marks.now s.requires)

pub begin_spec : {M : Type 1} → statement M
begin_spec = tie.close (tie.spec (λ c κs. search rules) (λ c κs. search rules) (λ c. search rules) returns)
