-- What `read_four` answers: a byte that is no digit makes the sum too high.
-- Assumes nothing.
use Rattle.text.proofs.FourRead.{other_length, too_high, as_told}
use Rattle.text.proofs.four.read_four.Goals as goal

pub returns-then-field-ne4 : goal.returns-then-field-ne4
returns-then-field-ne4 c = other_length c.args.field.now c.if-field-ne4.true

pub returns-then-sum-ge65536 : goal.returns-then-sum-ge65536
returns-then-sum-ge65536 c =
    too_high c.args.field.now c.if-field-ne4.false _ _ _ _ c.value.ensures.0 c.value-2.ensures.0 c.value-3.ensures.0 c.value-4.ensures.0
    c.if-sum-ge65536.true

pub returns : goal.returns
returns c =
    as_told c.args.field.now c.if-field-ne4.false _ _ _ _ c.value.ensures.0 c.value-2.ensures.0 c.value-3.ensures.0 c.value-4.ensures.0
    c.if-sum-ge65536.false
