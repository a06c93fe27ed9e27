-- Above the limit nothing more is read.
use Rattle.std.proofs.Common.{◌∙◌, sym, drop}
use Rattle.runner.specs.Digits.{digit_of}
use Rattle.runner.proofs.Limit.{above_limit}
use Rattle.runner.proofs.digits.number_by.Goals as goal

pub returns-then-value-gt1000000000000 : goal.returns-then-value-gt1000000000000
returns-then-value-gt1000000000000 c =
    sym (above_limit (digit_of c.args.numeral) c.loop-b.value (drop c.loop-b.b-index c.args.digits.now) c.if-value-gt1000000000000.true)
    ∙ c.loop-b.invariant
