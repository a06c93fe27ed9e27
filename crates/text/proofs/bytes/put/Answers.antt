-- What `put` writes, pair by pair.
-- Assumes nothing.
use Rattle.std.proofs.Common.{ℕ, ap, ◌∙◌, arith}
use Rattle.std.proofs.lemmas.List.Edits.{sets}
use Rattle.text.specs.Bytes.{bytes_of}
use Rattle.text.proofs.PairPuts.{put_none, put_byte, put_all, as_they_are}
use Rattle.text.proofs.bytes.put.Goals as goal

abbrev same : ℕ → ℕ
same b = b

pub loop-i-init : goal.loop-i-init
loop-i-init c = put_none same c.args.digits.now c.args.room.now c.args.at

pub loop-i-preserved : goal.loop-i-preserved
loop-i-preserved c =
    put_byte same c.args.digits.now c.args.room.now c.args.at c.loop-i.room c.loop-i.i c.loop-i.invariant
    (omega (arith, c.fitting-n.ensures.0, c.loop-i-test.true)) c.pair.result c.pair.ensures

pub returns : goal.returns
returns c =
    put_all same c.args.digits.now c.args.room.now c.args.at c.loop-i.room c.loop-i.i c.loop-i.invariant c.fitting-n.result
    c.loop-i.auto.i-end c.loop-i-test.false c.fitting-n.ensures.2 c.fitting-n.ensures.0
    ∙ ap (sets c.args.room.now c.args.at) (as_they_are (bytes_of c.args.digits.now))
