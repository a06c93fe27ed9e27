-- What is printed at the end is written and counted.
-- Assumes nothing.
use Rattle.std.proofs.Common.{◌≡◌, ℕ, ◌+◌, min, sym, ap, ◌∙◌, length-take-le}
use lib.Seq.{sets}
use Rattle.report_text.specs.Term.{state, close_out}
use Rattle.report_text.proofs.Writes.{not_refused, written_says, close_says}
use Rattle.report_text.proofs.whole.write_last.Goals as goal

pub unreachable-requires : goal.unreachable-requires
unreachable-requires c =
    let a = c.args in
    let g = close_says a.held.now a.line.now c.requires.0 c.requires.1 a.term in
    not_refused c.in_default.field-0 _ (c.in_default.ensures.result_value ∙ g.0)

pub slice_bounds-copy-end : goal.slice_bounds-copy-end
slice_bounds-copy-end c =
    let a = c.args in
    let g = close_says a.held.now a.line.now c.requires.0 c.requires.1 a.term in
    let q = written_says c.in-Ok.k (close_out (state a.term a.held.now)) a.line.now c.close.new.out (c.in-Ok.ensures.result_value ∙ g.0) (c.in-Ok.ensures.out_after ∙ g.1) c.close.auto.out in
    q.1

pub slice_bounds-copy-end-2 : goal.slice_bounds-copy-end-2
slice_bounds-copy-end-2 c =
    let a = c.args in
    let g = close_says a.held.now a.line.now c.requires.0 c.requires.1 a.term in
    let q = written_says c.in-Ok.k (close_out (state a.term a.held.now)) a.line.now c.close.new.out (c.in-Ok.ensures.result_value ∙ g.0) (c.in-Ok.ensures.out_after ∙ g.1) c.close.auto.out in
    sym (length-take-le c.in-Ok.k c.close.new.out q.1)

pub returns-clause-value : goal.returns-clause-value
returns-clause-value c =
    let a = c.args in
    let g = close_says a.held.now a.line.now c.requires.0 c.requires.1 a.term in
    let q = written_says c.in-Ok.k (close_out (state a.term a.held.now)) a.line.now c.close.new.out (c.in-Ok.ensures.result_value ∙ g.0) (c.in-Ok.ensures.out_after ∙ g.1) c.close.auto.out in
    c.more.ensures ∙ ap (λ (x : ℕ). min (a.n + x) 9223372036854775808) q.0

pub returns-clause-room_after : goal.returns-clause-room_after
returns-clause-room_after c =
    let a = c.args in
    let g = close_says a.held.now a.line.now c.requires.0 c.requires.1 a.term in
    let q = written_says c.in-Ok.k (close_out (state a.term a.held.now)) a.line.now c.close.new.out (c.in-Ok.ensures.result_value ∙ g.0) (c.in-Ok.ensures.out_after ∙ g.1) c.close.auto.out in
    c.copy.ensures ∙ ap (sets a.room.now a.n) q.2
