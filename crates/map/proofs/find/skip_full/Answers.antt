-- What is not found of `find::skip_full`: one word more.
-- Assumes nothing.
use Rattle.map.proofs.Finding.{full_next}
use Rattle.map.proofs.find.skip_full.Goals as goal

pub loop-j-preserved : goal.loop-j-preserved
loop-j-preserved c =
    let a = c.args in full_next a.words.now a.to a.q c.loop-j.j c.loop-j.invariant c.loop-j-test.true c.if-words-j.false
