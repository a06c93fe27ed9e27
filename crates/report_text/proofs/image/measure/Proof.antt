-- `image::measure` meets its contract.
-- Assumes nothing.
use Prim.Native.Nat.{◌≤◌}
use native.Mathlib.Omega.{arith}
use borrow.Author.Rules.{rules}
use lib.ListN.{length}
use Rattle.views.proofs.Viewing.{covered}
use Rattle.report_text.proofs.CodeAndData.{code_inside, measured}
use Rattle.report_text.proofs.image.measure.Statement.{statement}
use Rattle.report_text.proofs.image.measure.Tie as tie

count-bytes-requires : tie.Need-count_bytes-bytes-requires
count-bytes-requires c κs =
    let s = c.before.before in
    let h : length s.args.image.now ≤ 16384 = s.requires.0 in
    (covered s.args.image.now s.args.marks.now s.requires.1, omega arith)

sub-t9 : tie.Need-overflow_sub-result
sub-t9 c =
    let b = c.before in
    let a = b.args in
    code_inside a.image.now a.marks.now b.count_bytes-bytes.result.code b.count_bytes-bytes.ensures.0

returns : tie.Need-returns
returns c =
    let b = c.before.before in
    let a = b.args in
    measured a.image.now a.marks.now b.count_bytes-bytes.result.code b.count_bytes-bytes.ensures.0 a.steps
    b.count_bytes-bytes.result.shared c.target_marks.result b.count_bytes-bytes.ensures.1 c.target_marks.ensures

pub measure_spec : {M : Type 1} → statement M
measure_spec = tie.close (tie.spec count-bytes-requires sub-t9 (λ c κs. search rules) returns)
