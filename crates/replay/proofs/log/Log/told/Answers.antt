-- `log::Log::told` meets its contract.
-- Assumes nothing.
use Rattle.std.proofs.Common.{arith}
use Rattle.replay.proofs.Logs.{totals_told, refusal_told, held_19, held_20, held_21, held_18}
use Rattle.replay.proofs.log.Log.told.Goals as goal

pub returns-in-0 : goal.returns-in-0
returns-in-0 c = totals_told c.args.self _ _ _ c.in-0.is c.at_most.ensures c.at_most-in-0.ensures c.at_most-in-0-2.ensures

pub returns-in-19 : goal.returns-in-19
returns-in-19 c =
    let h = c.in-19.is in refusal_told c.args.self 19 _ (λ z. omega arith) c.one_more-line.ensures (held_19 _ h)

pub returns-in-20 : goal.returns-in-20
returns-in-20 c =
    let h = c.in-20.is in refusal_told c.args.self 20 _ (λ z. omega arith) c.one_more-line.ensures (held_20 _ h)

pub returns-in-21 : goal.returns-in-21
returns-in-21 c =
    let h = c.in-21.is in refusal_told c.args.self 21 _ (λ z. omega arith) c.one_more-line.ensures (held_21 _ h)

pub returns-in_default : goal.returns-in_default
returns-in_default c =
    let d = c.in_default.in_default-own.rest in
    refusal_told c.args.self 18 _ d.0.0.0.1 c.one_more-line.ensures (held_18 _ d.0.0.1 d.0.1 d.1)
