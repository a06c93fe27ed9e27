-- Above the limit nothing more is read.
use Rattle.std.proofs.Common.{◌∙◌, sym, drop}
use Rattle.runner.proofs.Limit.{above_limit}
use Rattle.runner.proofs.handed.number.Goals as goal

pub returns-then-value-gt1000000000000 : goal.returns-then-value-gt1000000000000
returns-then-value-gt1000000000000 g c f h =
    sym (above_limit f c.loop-b.value (drop c.loop-b.b-index c.args.digits.now) c.if-value-gt1000000000000.true) ∙ c.loop-b.invariant f h
