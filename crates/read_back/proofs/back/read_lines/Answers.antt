-- `back::read_lines` meets its contract.
-- Assumes nothing.
use Rattle.std.proofs.Common.{refl, Ok, Err, arith}
use Rattle.std.proofs.lemmas.Result.{err_from_is_err_and}
use Rattle.read_back.proofs.Going.{going_start, going_end, going_err, going_less, going_on_lem, going_some}
use Rattle.read_back.proofs.back.read_lines.Goals as goal

pub loop-place-init : goal.loop-place-init
loop-place-init c =
    let a = c.args in
    going_start a.mode a.text.now _ c.start-place.result c.start-place.ensures a.image.now a.table.now c.requires.0 c.requires.1 c.requires.2

pub returns-in_err-next : goal.returns-in_err-next
returns-in_err-next c =
    let a = c.args in
    let l = c.loop-place in
    let p = err_from_is_err_and c.from_residual.result c.from_residual.ensures.1 in
    rw (p.1, p.2)
    (going_err a.mode a.text.now _ l.place l.image l.table l.end l.invariant c.loop-place-test.true (Err c.in_err-next.field-0.0) c.read_on.new.image
    c.read_on.new.table c.in_err-next.ensures c.in_err-next.field-0.0 refl (omega (arith, l.invariant.wide)))

pub loop-place-smaller : goal.loop-place-smaller
loop-place-smaller c =
    let a = c.args in
    let l = c.loop-place in
    going_less a.mode a.text.now _ l.place l.image l.table l.end l.invariant c.loop-place-test.true (Ok (c.in_ok-next.next, c.in_ok-next.listed))
    c.read_on.new.image c.read_on.new.table c.in_ok-next.ensures c.in_ok-next.next c.in_ok-next.listed refl

pub loop-place-preserved : goal.loop-place-preserved
loop-place-preserved c =
    let a = c.args in
    let l = c.loop-place in
    going_on_lem a.mode a.text.now _ l.place l.image l.table l.end l.invariant c.loop-place-test.true (Ok (c.in_ok-next.next, c.in_ok-next.listed))
    c.read_on.new.image c.read_on.new.table c.in_ok-next.ensures c.in_ok-next.next c.in_ok-next.listed refl (omega (arith, c.well_formed.1.0.1))

pub overflow_sub-result : goal.overflow_sub-result
overflow_sub-result c =
    let l = c.loop-place in
    going_some c.args.mode c.args.text.now _ l.place l.image l.table l.end l.invariant c.loop-place-test.false

pub returns : goal.returns
returns c =
    let l = c.loop-place in
    going_end c.args.mode c.args.text.now _ l.place l.image l.table l.end l.invariant c.loop-place-test.false
