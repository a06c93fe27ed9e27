-- What is not found of `bits::is_one`: no bit from 64 on is 1.
-- Assumes nothing.
use mathlib.Core.Path.{refl, ◌∙◌}
use borrow.Author.Tests.{le-ltb}
use Rattle.map.specs.Bits.{one}
use Rattle.map.proofs.Stretches.{past_is}
use Rattle.map.proofs.bits.is_one.Goals as goal

pub returns-then-i-lt64 : goal.returns-then-i-lt64
unfolding one
returns-then-i-lt64 c = refl

pub returns-else-i-lt64 : goal.returns-else-i-lt64
returns-else-i-lt64 c = le-ltb c.args.i 64 c.if-i-lt64.false ∙ past_is c.args.w c.ranges.w.fits c.args.i c.if-i-lt64.false
