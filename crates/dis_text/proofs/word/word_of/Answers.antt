-- A test after the other.
-- Assumes nothing.
use Rattle.std.proofs.Common.{Some, None, sym, refl, ◌∙◌}
use Rattle.dis_text.specs.Word.{codes}
use Rattle.dis_text.proofs.WordKinds.{wraps, no_arrivals, pin, no_number, a_number}
use Rattle.dis_text.proofs.word.word_of.Goals as goal

pub returns-then-same : goal.returns-then-same
unfolding codes
returns-then-same c = wraps c.args.word.now (sym c.same.ensures ∙ c.if-same.true)

pub returns-then-same-2 : goal.returns-then-same-2
unfolding codes
returns-then-same-2 c = no_arrivals c.args.word.now (sym c.same.ensures ∙ c.if-same.false) (sym c.same-2.ensures ∙ c.if-same-2.true)

pub returns-then-same-3 : goal.returns-then-same-3
unfolding codes
returns-then-same-3 c =
    pin c.args.word.now (sym c.same.ensures ∙ c.if-same.false) (sym c.same-2.ensures ∙ c.if-same-2.false) (sym c.same-3.ensures ∙ c.if-same-3.true)

pub returns-in_err-n : goal.returns-in_err-n
unfolding codes
returns-in_err-n c =
    rw c.from_residual.ensures
    (no_number c.args.word.now (sym c.same.ensures ∙ c.if-same.false) (sym c.same-2.ensures ∙ c.if-same-2.false) (sym c.same-3.ensures ∙ c.if-same-3.false)
    None c.in_err-n.ensures refl)

pub returns : goal.returns
unfolding codes
returns c =
    a_number c.args.word.now (sym c.same.ensures ∙ c.if-same.false) (sym c.same-2.ensures ∙ c.if-same-2.false) (sym c.same-3.ensures ∙ c.if-same-3.false)
    (Some c.in_ok-n.n) c.in_ok-n.ensures c.in_ok-n.n refl
