-- `line::put_line` meets its contract.
-- Assumes nothing.
use Rattle.std.proofs.Common.{ℕ, List, get_or, arith}
use Rattle.listing.proofs.Hexing.{hexes_more, hexes_end, hex2_length}
use Rattle.text.proofs.Putting.{going_start, going_next, going_over, puts_then}
use Rattle.list_text.proofs.Bytewise.{byte_put}
use Rattle.unlist_text.proofs.line.put_line.Goals as goal

pub loop-b-init : goal.loop-b-init
loop-b-init c = (omega arith, going_start _ _ _)

pub loop-b-preserved : goal.loop-b-preserved
loop-b-preserved c =
    let l = c.loop-b in
    let bytes : List ℕ = c.args.bytes.now in (
      omega (arith, c.put_pair-a.ensures.next, hex2_length (get_or bytes l.b-index 0), l.invariant.0),
      going_next l.invariant.1 (hexes_more bytes l.b-index c.loop-b-test.true) c.put_pair-a.ensures,
    )

pub returns : goal.returns
returns c =
    let l = c.loop-b in
    puts_then (going_over l.invariant.1 (hexes_end c.args.bytes.now l.b-index c.loop-b-test.false)) (byte_put 10 l.a l.room)
