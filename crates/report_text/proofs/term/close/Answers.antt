-- What is refused, what is printed after 22, without an image, and with one.
-- Assumes nothing.
use Rattle.std.proofs.Common.{◌≡◌, ℕ, ◌≤◌, List, [], length, arith, rules, refl, ap, ◌∙◌, length-take-le, sym}
use Rattle.std.proofs.lemmas.Result.{err_from_is_err_and}
use Rattle.text.proofs.Putting.{puts_none, puts_then, puts_length}
use Rattle.report_text.specs.Report.{total_line}
use Rattle.report_text.specs.Term.{state, held_in}
use Rattle.report_text.proofs.Blocks.{over_close}
use Rattle.report_text.proofs.Terms.{judged, long_rooms, close_refused, close_on, close_none, closes_over, closes_on}
use Rattle.report_text.proofs.term.close.Goals as goal

pub returns-in_err-check : goal.returns-in_err-check
returns-in_err-check c =
    let a = c.args in
    let p = err_from_is_err_and c.from_residual.result c.from_residual.ensures.1 in
    let g = close_refused a.term a.room.now a.out.now _ c.in_err-check.ensures in
    rw (p.1, p.2) (record { result_value = g.0; out_after = g.1 })

pub returns-then-term : goal.returns-then-term
returns-then-term c =
    let a = c.args in
    let ok = judged a.room.now a.out.now c.in_ok-check.ensures in
    let g =
    close_on a.term a.room.now a.out.now ok [] (over_close (state a.term a.room.now) c.if-term.true) 0 a.out.now (puts_none 0 a.out.now)
    (omega arith)
    in
    record { result_value = g.0; out_after = g.1 }

pub put_total-requires : goal.put_total-requires
put_total-requires c =
    let r = long_rooms c.args.room.now c.args.out.now (judged c.args.room.now c.args.out.now c.in_ok-check.ensures) in omega (arith, r.1)

pub returns-then-n-eq0 : goal.returns-then-n-eq0
returns-then-n-eq0 c =
    let a = c.args in
    let ok = judged a.room.now a.out.now c.in_ok-check.ensures in
    let r = long_rooms a.room.now a.out.now ok in
    let p = c.put_total in
    let g =
    close_on a.term a.room.now a.out.now ok (total_line a.term.sums)
    (close_none a.term a.room.now a.out.now c.if-term.false (sym c.held_in-n.ensures ∙ c.if-n-eq0.true)) _ _ p.ensures.puts
    (omega (arith, p.ensures.upper_bound, r.1))
    in
    record { result_value = g.0; out_after = g.1 }

pub slice_bounds-finish-end : goal.slice_bounds-finish-end
slice_bounds-finish-end c =
    let r = long_rooms c.args.room.now c.args.out.now (judged c.args.room.now c.args.out.now c.in_ok-check.ensures) in
    sym (length-take-le c.held_in-n.result c.args.room.now (omega (arith, c.held_in-n.ensures, r.0)))

pub finish-f-requires : goal.finish-f-requires
finish-f-requires c = (long_rooms c.args.room.now c.args.out.now (judged c.args.room.now c.args.out.now c.in_ok-check.ensures)).1

pub returns-then-f : goal.returns-then-f
returns-then-f c =
    let a = c.args in
    let ok = judged a.room.now a.out.now c.in_ok-check.ensures in
    let r = long_rooms a.room.now a.out.now ok in
    let f = c.finish-f in
    let some : held_in a.term ≡ 0 → ⊥ = λ z. c.if-n-eq0.false (c.held_in-n.ensures ∙ z) in
    let g =
    close_on a.term a.room.now a.out.now ok _
    (closes_over a.term a.room.now a.out.now c.if-term.false some c.held_in-n.result c.held_in-n.ensures f.result _ f.ensures c.if-f.true) _ _
    f.ensures.put (omega (arith, f.ensures.most, r.1))
    in
    record { result_value = g.0; out_after = g.1 }

pub put_total-requires-2 : goal.put_total-requires-2
put_total-requires-2 c =
    let r = long_rooms c.args.room.now c.args.out.now (judged c.args.room.now c.args.out.now c.in_ok-check.ensures) in
    omega (arith, c.finish-f.ensures.most, r.1, puts_length c.finish-f.ensures.put)

pub returns : goal.returns
returns c =
    let a = c.args in
    let ok = judged a.room.now a.out.now c.in_ok-check.ensures in
    let r = long_rooms a.room.now a.out.now ok in
    let f = c.finish-f in
    let p = c.put_total-2 in
    let some : held_in a.term ≡ 0 → ⊥ = λ z. c.if-n-eq0.false (c.held_in-n.ensures ∙ z) in
    let g =
    close_on a.term a.room.now a.out.now ok _
    (closes_on a.term a.room.now a.out.now c.if-term.false some c.held_in-n.result c.held_in-n.ensures f.result _ f.ensures c.if-f.false) _ _
    (puts_then f.ensures.put p.ensures.puts) (omega (arith, f.ensures.most, r.1, p.ensures.upper_bound))
    in
    record { result_value = g.0; out_after = g.1 }
