-- `laying::far` meets its contract.
-- Assumes nothing.
use mathlib.Core.Path.{refl, ◌∙◌}
use borrow.Author.Rules.{rules}
use Rattle.text.specs.Bytes.{bytes_of}
use Rattle.text.proofs.Pairs.{pairs}
use Rattle.read_back.proofs.Notes.{far_none, far_some}
use Rattle.read_back.proofs.laying.far.Statement.{statement}
use Rattle.read_back.proofs.laying.far.Tie as tie

returns : tie.Need-returns-then-k-eq0
returns c =
    let a = c.args in
    far_none a.p (bytes_of a.digits.now) (pairs a.digits.now _ refl ∙ c.if-k-eq0.true)

returns-2 : tie.Need-returns
returns-2 c =
    let a = c.args in
    far_some a.p _ (bytes_of a.digits.now) (pairs a.digits.now _ refl) c.if-k-eq0.false

pub far_spec : {M : Type 1} → statement M
far_spec = tie.close (tie.spec returns (λ c. search rules) returns-2)
