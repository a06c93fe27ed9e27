-- One line after the other.
-- Assumes nothing.
use Rattle.std.proofs.Common.{◌≡◌, ℕ, ◌+◌, ◌≤◌, [], cond, eqb, ap, arith}
use Rattle.text.proofs.Putting.{puts_as, puts_most, puts_then}
use Rattle.listing.specs.Lines.{label_line}
use Rattle.listing.specs.Walk.{code_lines}
use Rattle.listing.proofs.Lining.{label_length}
use Rattle.listing.proofs.walk.put_code.Goals as goal

pub put_overlaps-b-requires : goal.put_overlaps-b-requires
put_overlaps-b-requires c =
    let h : c.put_label-a.result ≤ c.args.at + 7 = puts_most c.put_label-a.ensures (label_length c.label_at.result c.args.p) in omega arith

pub put_arrivals-c-requires : goal.put_arrivals-c-requires
put_arrivals-c-requires c =
    let h : c.put_label-a.result ≤ c.args.at + 7 = puts_most c.put_label-a.ensures (label_length c.label_at.result c.args.p) in
    (omega (arith, c.put_overlaps-b.ensures.upper_bound), c.requires.1)

pub put_here-requires : goal.put_here-requires
put_here-requires c =
    let h : c.put_label-a.result ≤ c.args.at + 7 = puts_most c.put_label-a.ensures (label_length c.label_at.result c.args.p) in
    omega (arith, c.put_overlaps-b.ensures.upper_bound, c.put_arrivals-c.ensures.upper_bound)

pub returns-clause-puts : goal.returns-clause-puts
unfolding code_lines
returns-clause-puts c =
    puts_then (puts_as (ap (λ (v : ℕ). cond (eqb v 0) [] (label_line c.args.p)) c.label_at.ensures) c.put_label-a.ensures)
    (puts_then c.put_overlaps-b.ensures.puts (puts_then c.put_arrivals-c.ensures.puts c.put_here.ensures.puts))

pub returns-clause-upper_bound : goal.returns-clause-upper_bound
returns-clause-upper_bound c =
    let h : c.put_label-a.result ≤ c.args.at + 7 = puts_most c.put_label-a.ensures (label_length c.label_at.result c.args.p) in
    omega (arith, c.put_overlaps-b.ensures.upper_bound, c.put_arrivals-c.ensures.upper_bound, c.put_here.ensures.upper_bound)
