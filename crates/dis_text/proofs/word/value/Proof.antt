-- `word::value` meets its contract.
-- Assumes nothing.
use mathlib.Core.Logic.{inl, inr, ⊎_elim}
use borrow.Author.Rules.{rules}
use Rattle.dis_text.proofs.Numbers.{lower_value, other_value}
use Rattle.dis_text.proofs.word.value.Statement.{statement}
use Rattle.dis_text.proofs.word.value.Tie as tie

returns : tie.Need-returns-then-b-le102
returns c = let t = c.before in lower_value t.args.b t.if-b-ge97.true c.if-b-le102.true-raw

returns-2 : tie.Need-returns
returns-2 c =
    let j = c.before in
    other_value j.args.b _ c.value.ensures.0 (⊎_elim (λ x. inl x.if-b-le102.false-raw) (λ x. inr x.if-b-ge97.false) j.else-b-ge97.branch-raw)

pub value_spec : {M : Type 1} → statement M
value_spec = tie.close (tie.spec (λ c. search rules) returns (λ c κs. search rules) returns-2)
