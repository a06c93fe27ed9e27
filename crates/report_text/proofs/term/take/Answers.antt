-- What is refused, what is taken after 22, what holds no end of an image, and what ends one.
-- Assumes nothing.
use Rattle.std.proofs.Common.{◌≡◌, ℕ, ◌≤◌, List, [], length, arith, rules, refl, ap, ◌∙◌, length-take-le, sym}
use borrow.Author.Tests.{not-true, not-false}
use Rattle.std.proofs.lemmas.Result.{err_from_is_err_and}
use Rattle.report_text.specs.Term.{state}
use Rattle.report_text.proofs.Terms.{judged, long_rooms, take_refused, take_on, take_over, taken}
use Rattle.report_text.proofs.Writes.{used_most, used_some}
use Rattle.report_text.proofs.term.take.Goals as goal

pub returns-in_err-check : goal.returns-in_err-check
returns-in_err-check c =
    let a = c.args in
    let p = err_from_is_err_and c.from_residual.result c.from_residual.ensures.1 in
    let g = take_refused a.term a.text.now a.room.now a.out.now _ c.in_err-check.ensures in
    rw (p.1, p.2) (record { printed_value = g.0; used_value = g.1.0; room_after = g.1.1.0; out_after = g.1.1.1; within = tt; some = tt })

pub returns-then-term : goal.returns-then-term
returns-then-term c =
    let a = c.args in
    let g = take_over a.term a.text.now a.room.now a.out.now (judged a.room.now a.out.now c.in_ok-check.ensures) c.if-term.true in
    record { printed_value = g.0; used_value = g.1.0; room_after = g.1.1.0; out_after = g.1.1.1; within = search rules; some = λ h. h }

pub gather-g-requires : goal.gather-g-requires
gather-g-requires c = ((long_rooms c.args.room.now c.args.out.now (judged c.args.room.now c.args.out.now c.in_ok-check.ensures)).0, c.if-term.false)

pub returns-then-not-g : goal.returns-then-not-g
returns-then-not-g c =
    let a = c.args in
    let g = c.gather-g in
    let ok = judged a.room.now a.out.now c.in_ok-check.ensures in
    let w = g.ensures.whole (not-true _ c.if-not-g.true) in
    let r = take_on a.term a.text.now a.room.now a.out.now ok g.result.used g.ensures.used_is _ w.0 [] w.1 0 refl a.out.now refl in
    record {
      printed_value = r.0;
      used_value = r.1.0;
      room_after = r.1.1.0;
      out_after = r.1.1.1;
      within = omega (arith, g.ensures.used_is, used_most (state a.term a.room.now) a.text.now);
      some = λ h. omega (arith, g.ensures.used_is, used_some (state a.term a.room.now) a.text.now h);
    }

pub slice_bounds-finish-end : goal.slice_bounds-finish-end
slice_bounds-finish-end c =
    let r = long_rooms c.args.room.now c.args.out.now (judged c.args.room.now c.args.out.now c.in_ok-check.ensures) in
    omega (arith, c.held_in-n.ensures, c.gather-g.auto.room, r.0)

pub slice_bounds-finish-end-2 : goal.slice_bounds-finish-end-2
slice_bounds-finish-end-2 c =
    let r = long_rooms c.args.room.now c.args.out.now (judged c.args.room.now c.args.out.now c.in_ok-check.ensures) in
    sym (length-take-le c.held_in-n.result c.gather-g.new.room (omega (arith, c.held_in-n.ensures, c.gather-g.auto.room, r.0)))

pub finish-f-requires : goal.finish-f-requires
finish-f-requires c = (long_rooms c.args.room.now c.args.out.now (judged c.args.room.now c.args.out.now c.in_ok-check.ensures)).1

pub returns : goal.returns
returns c =
    let a = c.args in
    let g = c.gather-g in
    let ok = judged a.room.now a.out.now c.in_ok-check.ensures in
    let r =
    taken a.term a.text.now a.room.now a.out.now ok g.result g.new.room g.ensures (not-false _ c.if-not-g.false) c.held_in-n.result c.held_in-n.ensures
    c.finish-f.result c.finish-f.new.out c.finish-f.ensures (long_rooms a.room.now a.out.now ok).1
    in
    record {
      printed_value = r.0;
      used_value = r.1.0;
      room_after = r.1.1.0;
      out_after = r.1.1.1;
      within = omega (arith, g.ensures.used_is, used_most (state a.term a.room.now) a.text.now);
      some = λ h. omega (arith, g.ensures.used_is, used_some (state a.term a.room.now) a.text.now h);
    }
