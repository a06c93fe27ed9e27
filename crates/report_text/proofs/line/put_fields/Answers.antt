-- One number more, and the last.
-- Assumes nothing.
use Rattle.std.proofs.Common.{ℕ, ◌<◌, ◌≤◌, ◌+◌, ◌^◌, ◌∷◌, get_or, arith, ◌∙◌}
use Rattle.text.specs.Puts.{Puts}
use Rattle.text.proofs.Putting.{going_next, going_over, puts_length}
use Rattle.list_text.specs.Decimal.{decimal}
use Rattle.list_text.proofs.Decimals.{width_of}
use Rattle.report_text.proofs.Lines.{field_put, next_field, no_field}
use Rattle.report_text.proofs.line.put_fields.Goals as goal

pub loop-number-preserved : goal.loop-number-preserved
loop-number-preserved c =
    let l = c.loop-number in
    let n : ℕ = get_or c.args.numbers.now l.number-index 0 in
    let k = c.width-k.result in
    let narrow : k ≤ 20 = omega (arith, width_of n (omega (arith, (c.type_inv.numbers l.number-index).fits)), c.width-k.ensures.0) in
    let put : Puts (9 ∷ decimal n) l.to l.room c.put.new.room (l.to + (k + 1)) = field_put _ k l.to l.room _ c.width-k.ensures.0 c.put.ensures in (
      puts_length put ∙ l.invariant.0,
      omega (arith, l.invariant.1, narrow),
      going_next l.invariant.2 (next_field c.args.numbers.now l.number-index c.loop-number-test.true) put,
    )

pub returns-clause-puts : goal.returns-clause-puts
returns-clause-puts c =
    let l = c.loop-number in
    going_over l.invariant.2 (no_field c.args.numbers.now l.number-index c.loop-number-test.false)
