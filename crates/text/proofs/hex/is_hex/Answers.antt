-- What `is_hex` answers, digit by digit.
-- Assumes nothing.
use Rattle.std.proofs.Common.{refl}
use Rattle.text.proofs.Digits.{hex_more, hex_end}
use Rattle.text.proofs.hex.is_hex.Goals as goal

pub loop-b-init : goal.loop-b-init
loop-b-init c = refl

pub loop-b-preserved : goal.loop-b-preserved
loop-b-preserved c =
    hex_more c.args.s.now c.loop-b.b-index c.loop-b.all c.loop-b.invariant c.loop-b-test.true c.is_digit-all.result c.is_digit-all.ensures

pub returns : goal.returns
returns c = hex_end c.args.s.now c.loop-b.b-index c.loop-b.all c.loop-b.invariant c.loop-b-test.false
