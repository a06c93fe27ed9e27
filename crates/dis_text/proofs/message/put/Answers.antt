-- A step at each byte.
-- Assumes nothing.
use Rattle.std.proofs.Common.{◌∙◌, refl, arith}
use lib.ListN.{drop_of_length-le}
use Rattle.text.proofs.Putting.{going_start, going_next, going_over, puts_length}
use Rattle.list_text.proofs.Bytewise.{next_byte}
use Rattle.dis_text.proofs.message.put.Goals as goal

pub loop-b-init : goal.loop-b-init
loop-b-init c = (omega arith, refl, going_start _ _ _)

pub put_byte-to-requires : goal.put_byte-to-requires
put_byte-to-requires c = omega arith

pub loop-b-preserved : goal.loop-b-preserved
loop-b-preserved c = (
  omega (arith, c.put_byte-to.ensures.next),
  puts_length c.put_byte-to.ensures ∙ c.loop-b.invariant.1,
  going_next c.loop-b.invariant.2 (next_byte c.args.text.now c.loop-b.b-index c.loop-b-test.true) c.put_byte-to.ensures,
)

pub returns : goal.returns
returns c = going_over c.loop-b.invariant.2 (drop_of_length-le c.args.text.now {i = c.loop-b.b-index} (omega arith))
