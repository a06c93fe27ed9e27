-- The room is as it was filled, and its answer is told apart from each other one.
use Rattle.std.proofs.Common.{rules, ◌≡◌, ◌-◌, replicate, subst, Err}
use Rattle.runner.specs.declared.call.CallError.TheVariants.{NoRoom}
use Rattle.runner.proofs.call.is_refused.Goals as goal

pub returns-then-eq-clause-called : goal.returns-then-eq-clause-called
returns-then-eq-clause-called g c fits some =
    let filled : c.fill.new.self ≡ replicate (c.args.need - 1) 126 = search rules in
    let told : c.write.result ≡ Err (NoRoom c.args.need) = search rules in (
      c.write.result,
      c.write.new.room,
      subst (λ l. g.C.Call.writes c.args.call.now l c.write.result c.write.new.room) filled c.write.ensures,
      (λ t. (told, c.is_old.ensures.0 t), λ p. c.is_old.ensures.1 p.1),
    )

pub returns-else-eq-clause-called : goal.returns-else-eq-clause-called
returns-else-eq-clause-called g c fits some =
    let filled : c.fill.new.self ≡ replicate (c.args.need - 1) 126 = search rules in (
      c.write.result,
      c.write.new.room,
      subst (λ l. g.C.Call.writes c.args.call.now l c.write.result c.write.new.room) filled c.write.ensures,
      (λ t. search rules, λ p. let e = p.0 in search rules),
    )
