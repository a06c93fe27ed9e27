-- What is printed of a text is written and counted.
-- Assumes nothing.
use Rattle.std.proofs.Common.{◌≡◌, ℕ, ◌+◌, min, sym, ap, ◌∙◌, length-take-le}
use lib.Seq.{sets}
use Rattle.report_text.specs.Term.{first_out}
use Rattle.report_text.proofs.Writes.{not_refused, written_says, take_says, take_goes}
use Rattle.report_text.proofs.whole.write_some.Goals as goal

pub unreachable-requires : goal.unreachable-requires
unreachable-requires c =
    let a = c.args in
    let g = take_says a.held.now a.line.now c.requires.0 c.requires.1 a.term a.text.now in
    not_refused c.in_default.field-0 _ (c.in_default.ensures.printed_value ∙ g.0)

pub slice_bounds-copy-end : goal.slice_bounds-copy-end
slice_bounds-copy-end c =
    let a = c.args in
    let g = take_says a.held.now a.line.now c.requires.0 c.requires.1 a.term a.text.now in
    let e = c.in-Ok.ensures in
    let q = written_says c.in-Ok.taken.printed (first_out a.term a.text.now a.held.now) a.line.now c.take.new.out (e.printed_value ∙ g.0) (e.out_after ∙ g.1) c.take.auto.out in
    q.1

pub slice_bounds-copy-end-2 : goal.slice_bounds-copy-end-2
slice_bounds-copy-end-2 c =
    let a = c.args in
    let g = take_says a.held.now a.line.now c.requires.0 c.requires.1 a.term a.text.now in
    let e = c.in-Ok.ensures in
    let q = written_says c.in-Ok.taken.printed (first_out a.term a.text.now a.held.now) a.line.now c.take.new.out (e.printed_value ∙ g.0) (e.out_after ∙ g.1) c.take.auto.out in
    sym (length-take-le c.in-Ok.taken.printed c.take.new.out q.1)

pub returns-clause-writing : goal.returns-clause-writing
returns-clause-writing c =
    let a = c.args in
    let g = take_says a.held.now a.line.now c.requires.0 c.requires.1 a.term a.text.now in
    let e = c.in-Ok.ensures in
    let q = written_says c.in-Ok.taken.printed (first_out a.term a.text.now a.held.now) a.line.now c.take.new.out (e.printed_value ∙ g.0) (e.out_after ∙ g.1) c.take.auto.out in
    let h = take_goes a.held.now a.line.now c.requires.0 c.requires.1 a.term a.text.now in
    record {
      used_is = e.used_value ∙ h.0;
      left = e.room_after ∙ h.1;
      counted = c.more.ensures ∙ ap (λ (x : ℕ). min (a.n + x) 9223372036854775808) q.0;
    }

pub returns-clause-room_after : goal.returns-clause-room_after
returns-clause-room_after c =
    let a = c.args in
    let g = take_says a.held.now a.line.now c.requires.0 c.requires.1 a.term a.text.now in
    let e = c.in-Ok.ensures in
    let q = written_says c.in-Ok.taken.printed (first_out a.term a.text.now a.held.now) a.line.now c.take.new.out (e.printed_value ∙ g.0) (e.out_after ∙ g.1) c.take.auto.out in
    c.copy.ensures ∙ ap (sets a.room.now a.n) q.2
