-- A step at each byte.
-- Assumes nothing.
use Rattle.std.proofs.Common.{◌∙◌, get_or, refl, arith}
use Rattle.listing.proofs.Hexing.{hexes_more, hexes_end, hex2_length}
use Rattle.text.proofs.Putting.{going_start, going_next, going_over, puts_length, puts_then}
use Rattle.listing.proofs.pieces.put_bytes.Goals as goal

pub loop-b-init : goal.loop-b-init
loop-b-init c = (omega (arith, c.put_byte-a.ensures.next), refl, going_start _ _ _)

pub put_hex2-a-requires : goal.put_hex2-a-requires
put_hex2-a-requires c = omega arith

pub loop-b-preserved : goal.loop-b-preserved
loop-b-preserved c =
    let p = rw c.from.ensures at c.put_hex2-a.ensures in (
      omega (arith, p.next, hex2_length (get_or c.args.bytes.now c.loop-b.b-index 0), c.loop-b.invariant.0),
      puts_length p ∙ c.loop-b.invariant.1,
      going_next c.loop-b.invariant.2 (hexes_more c.args.bytes.now c.loop-b.b-index c.loop-b-test.true) p,
    )

pub returns : goal.returns
returns c = puts_then c.put_byte-a.ensures (going_over c.loop-b.invariant.2 (hexes_end c.args.bytes.now c.loop-b.b-index (omega arith)))
