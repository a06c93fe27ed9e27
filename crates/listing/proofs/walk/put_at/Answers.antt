-- The lines of code, or of the run.
-- Assumes nothing.
use Rattle.std.proofs.Common.{sym, ◌∙◌, arith}
use Rattle.views.specs.Labels.{labels_of}
use Rattle.text.proofs.Putting.{puts_as}
use Rattle.listing.specs.Lent.{has_index}
use Rattle.listing.proofs.Walking.{print_code, print_run, run_length_lem}
use Rattle.listing.proofs.walk.put_at.Goals as goal

pub returns-then-is_traced-clause-puts : goal.returns-then-is_traced-clause-puts
returns-then-is_traced-clause-puts c =
    let s = c.args.lent.now in
    puts_as (print_code s.mode s.image.now s.marks.now (labels_of s.mode s.image.now s.marks.now) (has_index s.table) c.args.p
    (sym c.is_traced.ensures ∙ c.if-is_traced.true)) c.put_code.ensures.puts

pub put_data-requires : goal.put_data-requires
put_data-requires c =
    let s = c.args.lent.now in
    (omega arith, run_length_lem s.image.now s.marks.now c.args.p s.small.1 _ c.requires.2)

pub returns-clause-puts : goal.returns-clause-puts
returns-clause-puts c =
    let s = c.args.lent.now in
    puts_as (print_run s.mode s.image.now s.marks.now (labels_of s.mode s.image.now s.marks.now) (has_index s.table) c.args.p
    (sym c.is_traced.ensures ∙ c.if-is_traced.false) _ c.requires.2) c.put_data.ensures.puts
