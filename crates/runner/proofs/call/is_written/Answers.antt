-- The room is as it was filled, and its answer is told apart from each other one.
use Rattle.std.proofs.Common.{rules, arith, ◌≡◌, ◌+◌, ◌-◌, ◌%◌, replicate, length, drop, length-drop, take_all, subst, sym, All, Ok}
use Rattle.runner.proofs.call.is_written.Goals as goal

pub returns-then-eq-clause-called : goal.returns-then-eq-clause-called
returns-then-eq-clause-called g c fits =
    let filled : c.fill.new.self ≡ replicate (c.args.need + c.args.need % 3) 126 = search rules in
    let told : c.write.result ≡ Ok c.args.need = search rules in
    let part = take_all (length c.write.new.room - c.args.need) (drop c.args.need c.write.new.room) (omega (arith, length-drop c.args.need c.write.new.room)) in (
      c.write.result,
      c.write.new.room,
      subst (λ l. g.C.Call.writes c.args.call.now l c.write.result c.write.new.room) filled c.write.ensures,
      (λ t. (told, subst (All (λ b. b ≡ 126)) part (c.is_old.ensures.0 t)), λ p. c.is_old.ensures.1 (subst (All (λ b. b ≡ 126)) (sym part) p.1)),
    )

pub returns-else-eq-clause-called : goal.returns-else-eq-clause-called
returns-else-eq-clause-called g c fits =
    let filled : c.fill.new.self ≡ replicate (c.args.need + c.args.need % 3) 126 = search rules in (
      c.write.result,
      c.write.new.room,
      subst (λ l. g.C.Call.writes c.args.call.now l c.write.result c.write.new.room) filled c.write.ensures,
      (λ t. search rules, λ p. let e = p.0 in search rules),
    )
