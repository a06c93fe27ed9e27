-- What `is_bytes` answers, by the tests that led there.
-- Assumes nothing.
use Rattle.std.proofs.Common.{ℕ, List, refl, ◌∙◌}
use Rattle.text.proofs.Pairs.{odd, none, many, few}
use Rattle.text.proofs.bytes.is_bytes.Goals as goal
use Rattle.text.proofs.bytes.is_bytes.Goals.{then-s-n-via-then-s-n, then-s-n-via-else-s-n+then-n-eq0, then-s-n-via-else-s-n+else-n-eq0+then-most-n}

pub returns-then-s-n : goal.returns-then-s-n
returns-then-s-n c =
    let s : List ℕ = c.args.s.now in
    elim c.then-s-n.branch [
      | then-s-n-via-then-s-n w ↦ odd c.args.most s _ refl w.if-s-n.true
      | then-s-n-via-else-s-n+then-n-eq0 w ↦ none c.args.most s _ refl w.if-s-n.false w.if-n-eq0.true
      | then-s-n-via-else-s-n+else-n-eq0+then-most-n w ↦ many c.args.most s _ refl w.if-s-n.false w.if-n-eq0.false w.if-most-n.true
    ]

pub returns : goal.returns
returns c = c.is_hex.ensures ∙ few c.args.most c.args.s.now _ refl c.if-s-n.false c.if-n-eq0.false c.if-most-n.false
